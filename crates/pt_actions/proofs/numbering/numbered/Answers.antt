use Rattle.std.proofs.Common.{◌≡◌, ◌+◌, ◌∷◌, ◌++◌, [], ℕ, Bool, true, false, List, Some, length, map, sym, ap, ◌∙◌, subst}
use Rattle.std.specs.List.{range_with_len}
use Rattle.pt_ast.specs.declared.refusal.Refusal.TheVariants as refusal
use Rattle.pt_ast.specs.declared.table.PartDef.{PartDef}
use Rattle.pt_place.specs.Checks.{name_twice, part_names}
use Rattle.pt_place.specs.First.{in_turn_from, refused_if}
use Rattle.pt_place.specs.Names.{is_among}
use Rattle.pt_complete.proofs.Naming.{err_made}
use Rattle.pt_complete.proofs.ValidNames.{not_refused}
use Rattle.pt_actions.specs.Counted.{number_name, numbered_part, parts_more}
use Rattle.pt_actions.proofs.More.{AreNumbered, numbered_found, numbered_next}
use Rattle.pt_actions.proofs.numbering.numbered.Goals as goal

pub returns-then-has : goal.returns-then-has
returns-then-has c =
    let before = c.args.before.now in
    let name = number_name (length before + c.loop-i.i) in
    let is : c.in_ok-name.name ≡ name = c.in_ok-name.ensures in
    let known : c.has.result ≡ is_among c.in_ok-name.name c.loop-i.known = c.has.ensures in
    let there : is_among name c.loop-i.known ≡ true = ap (λ (n : List ℕ). is_among n c.loop-i.known) (sym is) ∙ sym known ∙ c.if-has.true in
    let found : name_twice c.loop-i.known name ≡ Some (refusal.DuplicatePartition name) = ap (λ (b : Bool). refused_if b (refusal.DuplicatePartition name)) there in
    err_made (in_turn_from name_twice (part_names before) (map number_name (range_with_len (length before) c.args.more))) (parts_more c.args.more before) (refusal.DuplicatePartition c.in_ok-name.name)
    (numbered_found before c.args.more c.loop-i.i c.loop-i.known c.loop-i.all c.loop-i.invariant c.loop-i-test.true found ∙ ap (λ (n : List ℕ). Some (refusal.DuplicatePartition n)) (sym is))

pub loop-i-preserved : goal.loop-i-preserved
loop-i-preserved c =
    let before = c.args.before.now in
    let name = number_name (length before + c.loop-i.i) in
    let is : c.in_ok-name.name ≡ name = c.in_ok-name.ensures in
    let known : c.has.result ≡ is_among c.in_ok-name.name c.loop-i.known = c.has.ensures in
    let absent : is_among name c.loop-i.known ≡ false = ap (λ (n : List ℕ). is_among n c.loop-i.known) (sym is) ∙ sym known ∙ c.if-has.false in
    let next = numbered_next before c.args.more c.loop-i.i c.loop-i.known c.loop-i.all c.loop-i.invariant c.loop-i-test.true (not_refused (is_among name c.loop-i.known) (refusal.DuplicatePartition name) absent) in
    let names : c.add.new.self ≡ c.loop-i.known ++ name ∷ [] = c.in_ok-add.ensures.ok ∙ ap (λ (n : List ℕ). c.loop-i.known ++ n ∷ []) is in
    let part : c.bare_part.result ≡ numbered_part (length before + c.loop-i.i) = c.bare_part.ensures ∙ ap (λ (n : List ℕ). record { name = n; bounds = []; subs = [] }) is in
    let parts : c.push.new.self ≡ c.loop-i.all ++ numbered_part (length before + c.loop-i.i) ∷ [] = c.in_ok-push.ensures.ok ∙ ap (λ (p : PartDef). c.loop-i.all ++ p ∷ []) part in
    subst (λ (ns : List (List ℕ)). AreNumbered before c.args.more (c.loop-i.i + 1) ns c.push.new.self) (sym names)
    (subst (λ (ps : List PartDef). AreNumbered before c.args.more (c.loop-i.i + 1) (c.loop-i.known ++ name ∷ []) ps) (sym parts) next)
