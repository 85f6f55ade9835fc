use Rattle.std.proofs.Common.{List, ℕ, Some, length, ap, ◌∙◌}
use Rattle.std.specs.Option.{option_map}
use Rattle.pt_host.proofs.Lookups.{found_file}
use Rattle.pt_host_cases.proofs.stage.length_in.Goals as goal

pub returns-in_err-bytes : goal.returns-in_err-bytes
returns-in_err-bytes c = rw c.from_residual.ensures (ap (option_map length) (ap (option_map (λ (file : List ℕ × List ℕ). file.1)) c.in_err-bytes.ensures ∙ found_file c.args.files.now c.args.name.now))

pub returns : goal.returns
returns c = ap (λ (bytes : List ℕ). Some (length bytes)) c.items.ensures
    ∙ ap (option_map length) (ap (option_map (λ (file : List ℕ × List ℕ). file.1)) c.in_ok-bytes.ensures ∙ found_file c.args.files.now c.args.name.now)
