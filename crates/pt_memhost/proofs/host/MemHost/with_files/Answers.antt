use Rattle.std.proofs.Common.{◌∙◌, ap, sym, subst}
use Rattle.pt_host.specs.Disk.{IsAtRest, shown}
use Rattle.pt_memhost.specs.Story.{Story, world_of}
use Rattle.pt_memhost.proofs.Story.{first_world, first_shown, first_rests}
use Rattle.pt_memhost.proofs.host.MemHost.with_files.Goals as goal

pub returns-clause-world : goal.returns-clause-world
returns-clause-world c = ap world_of c.in_ok-start.ensures ∙ first_world c.args.files.now c.args.input.now

pub returns-clause-rests : goal.returns-clause-rests
returns-clause-rests c =
    subst (λ (story : Story). IsAtRest (world_of story).now.fs) (sym c.in_ok-start.ensures) (first_rests c.args.files.now c.args.input.now)

pub returns-clause-shown : goal.returns-clause-shown
returns-clause-shown c =
    λ name. ap (λ (story : Story). shown (world_of story).now.fs name) c.in_ok-start.ensures ∙ first_shown c.args.files.now c.args.input.now name
