-- What comes of the checks of new partitions is what the definitions of ADD PARTITION and REORGANIZE PARTITION say.
use Rattle.std.proofs.Common.{◌≡◌, ℕ, false, List, [], ◌++◌, map, length, take, drop, Option, Some, None, Result, Ok, Err, sym, ap, ◌∙◌}
use Rattle.std.specs.List.{list_any}
use Rattle.std.specs.Option.{option_or}
use Rattle.std.proofs.Math.Seq.{drop-append_seam, take-append_seam}
use Rattle.std.proofs.lemmas.List.{append_assoc, length-map}
use Rattle.pt_ast.specs.declared.written.PartItem.{PartItem}
use Rattle.pt_ast.specs.declared.table.PartDef.{PartDef}
use Rattle.pt_ast.specs.declared.table.TableDef.{TableDef}
use Rattle.pt_ast.specs.declared.refusal.Refusal.{Refusal}
use Rattle.pt_ast.specs.declared.refusal.Refusal.TheVariants as refusal
use Rattle.pt_place.specs.First.{first_in}
use Rattle.pt_place.proofs.Firsts.{or-none, or_end}
use Rattle.pt_written.specs.Complete.{refused_or}
use Rattle.pt_complete.proofs.Naming.{err_made, made_err, made_ok, ok_made}
use Rattle.pt_complete.proofs.ValidNames.{not_refused}
use Rattle.pt_regrouped.specs.NewParts.{bad_kind, bad_new, new_part, parts_among, with_parts}
use Rattle.pt_regrouped.specs.Regrouped.{add_refusal, added_of, behind_of, front_of, group_of, is_named, no_part, not_adjacent, own_names, range_changed, regroup_refusal, regrouped_of}
use Rattle.pt_regrouped.specs.Steps.{bad_replacing}
use Rattle.pt_regrouped.proofs.Ordered.{add_new, regroup_replaced}

-- ---- ADD PARTITION

module _ (table : List ℕ) (items : List PartItem) (def : TableDef) (good : None ≡ bad_kind table def.by)
    (old : List PartDef) (new : List PartItem) (own : Result (List PartDef) Refusal) (is_old : old ≡ def.parts) (is_new : new ≡ items)
    (is : own ≡ refused_or (bad_new table def old new []) (parts_among def old new [])) where
  at : own ≡ refused_or (bad_new table def def.parts items []) (parts_among def def.parts items [])
  at =
      is ∙ ap (λ l. refused_or (bad_new table def l new []) (parts_among def l new [])) is_old
      ∙ ap (λ l. refused_or (bad_new table def def.parts l []) (parts_among def def.parts l [])) is_new

  pub add_refused : (r : Refusal) → own ≡ Err r → Err r ≡ added_of table items def
  add_refused r e =
      err_made (add_refusal table items def) (with_parts def (parts_among def def.parts items [])) r
      (add_new table items def good ∙ made_err (bad_new table def def.parts items []) (parts_among def def.parts items []) r (sym e ∙ at))

  pub add_made : (parts : List PartDef) (made : TableDef) → own ≡ Ok parts → made ≡ with_parts def parts → Ok made ≡ added_of table items def
  add_made parts made e is_made =
      let both = made_ok (bad_new table def def.parts items []) (parts_among def def.parts items []) parts (sym e ∙ at) in
      ok_made (add_refusal table items def) (with_parts def (parts_among def def.parts items [])) made (add_new table items def good ∙ both.0) (is_made ∙ ap (with_parts def) both.1)

-- ---- REORGANIZE PARTITION

module _ (table : List ℕ) (names : List (List ℕ)) (items : List PartItem) (def : TableDef) (good : None ≡ bad_kind table def.by) (known : None ≡ first_in (no_part (own_names def.parts)) names)
    (named : List (List ℕ)) (new : List PartItem) (own : Result (List PartDef) Refusal) (is_named_so : named ≡ names) (is_new : new ≡ items)
    (is : own ≡ refused_or (bad_replacing table named new def) (parts_among def (front_of named def.parts) new (behind_of named def.parts))) where
  so : own ≡ refused_or (bad_replacing table names items def) (parts_among def (front_of names def.parts) items (behind_of names def.parts))
  so =
      is ∙ ap (λ l. refused_or (bad_replacing table l new def) (parts_among def (front_of l def.parts) new (behind_of l def.parts))) is_named_so
      ∙ ap (λ l. refused_or (bad_replacing table names l def) (parts_among def (front_of names def.parts) l (behind_of names def.parts))) is_new

  pub regroup_refused : (r : Refusal) → own ≡ Err r → Err r ≡ regrouped_of table names items def
  regroup_refused r e =
      err_made (regroup_refusal table names items def) (with_parts def (parts_among def (front_of names def.parts) items (behind_of names def.parts))) r
      (regroup_replaced table names items def good known
      ∙ made_err (bad_replacing table names items def) (parts_among def (front_of names def.parts) items (behind_of names def.parts)) r (sym e ∙ so))

  pub regroup_made : (parts : List PartDef) (made : TableDef) → own ≡ Ok parts → made ≡ with_parts def parts → Ok made ≡ regrouped_of table names items def
  regroup_made parts made e is_made =
      let both = made_ok (bad_replacing table names items def) (parts_among def (front_of names def.parts) items (behind_of names def.parts)) parts (sym e ∙ so) in
      ok_made (regroup_refusal table names items def) (with_parts def (parts_among def (front_of names def.parts) items (behind_of names def.parts))) made
      (regroup_replaced table names items def good known ∙ both.0) (is_made ∙ ap (with_parts def) both.1)

-- ---- the partitions that REORGANIZE makes

-- the new partitions stand behind the first ones
pub new_stand : (front new behind : List PartDef) → take (length new) (drop (length front) (front ++ new ++ behind)) ≡ new
new_stand front new behind =
    ap (λ l. take (length new) (drop (length front) l)) (append_assoc front new behind)
    ∙ ap (take (length new)) (drop-append_seam front (new ++ behind))
    ∙ take-append_seam new behind

module _ (table : List ℕ) (names : List (List ℕ)) (items : List PartItem) (def : TableDef) (front group behind parts new : List PartDef)
    (is_front : front ≡ front_of names def.parts) (is_group : group ≡ group_of names def.parts) (is_behind : behind ≡ behind_of names def.parts)
    (together : list_any (is_named names) behind ≡ false)
    (listed : Ok parts ≡ refused_or (bad_new table def front items behind) (parts_among def front items behind))
    (is_new : new ≡ take (length items) (drop (length front) parts)) where
  both : (bad_new table def front items behind ≡ None) × (parts ≡ parts_among def front items behind)
  both = made_ok (bad_new table def front items behind) (parts_among def front items behind) parts listed

  new_are : new ≡ map (new_part def) items
  new_are =
      is_new
      ∙ ap (λ l. take (length items) (drop (length front) l)) both.1
      ∙ ap (λ n. take n (drop (length front) (parts_among def front items behind))) (sym (length-map items (new_part def)))
      ∙ new_stand front (map (new_part def) items) behind

  apart : not_adjacent table names def.parts ≡ None
  apart = not_refused _ (refusal.NotAdjacent table) (ap (list_any (is_named names)) (sym is_behind) ∙ together)

  none : bad_new table def (front_of names def.parts) items (behind_of names def.parts) ≡ None
  none = ap (λ l. bad_new table def (front_of names def.parts) items l) (sym is_behind) ∙ ap (λ l. bad_new table def l items behind) (sym is_front) ∙ both.0

  last : Option Refusal
  last = range_changed table def.by (group_of names def.parts) (map (new_part def) items) (behind_of names def.parts)

  same : range_changed table def.by group new behind ≡ range_changed table def.by (group_of names def.parts) (map (new_part def) items) (behind_of names def.parts)
  same =
      ap (λ l. range_changed table def.by l new behind) is_group
      ∙ ap (λ l. range_changed table def.by (group_of names def.parts) l behind) new_are
      ∙ ap (λ l. range_changed table def.by (group_of names def.parts) (map (new_part def) items) l) is_behind

  after : bad_replacing table names items def ≡ range_changed table def.by group new behind
  unfolding last
  after =
      or-none (not_adjacent table names def.parts) (option_or (bad_new table def (front_of names def.parts) items (behind_of names def.parts)) (option_or last None)) apart
      ∙ or-none (bad_new table def (front_of names def.parts) items (behind_of names def.parts)) (option_or last None) none
      ∙ or_end last ∙ sym same

  pub replaced_refused : (r : Refusal) → Some r ≡ range_changed table def.by group new behind
      → ◌≡◌ {A = Result (List PartDef) Refusal} (Err r) (refused_or (bad_replacing table names items def) (parts_among def (front_of names def.parts) items (behind_of names def.parts)))
  replaced_refused r found = err_made (bad_replacing table names items def) (parts_among def (front_of names def.parts) items (behind_of names def.parts)) r (after ∙ sym found)

  pub replaced_made : None ≡ range_changed table def.by group new behind → Ok parts ≡ refused_or (bad_replacing table names items def) (parts_among def (front_of names def.parts) items (behind_of names def.parts))
  replaced_made found =
      ok_made (bad_replacing table names items def) (parts_among def (front_of names def.parts) items (behind_of names def.parts)) parts (after ∙ sym found)
      (both.1 ∙ ap (λ l. parts_among def l items behind) is_front ∙ ap (λ l. parts_among def (front_of names def.parts) items l) is_behind)
