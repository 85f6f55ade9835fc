use Rattle.std.proofs.Common.{ℕ, ap, subst, sym, ◌∙◌}
use Rattle.std.specs.List.{All}
use Rattle.pt_host.specs.Listed.{by_name}
use Rattle.pt_ast.specs.declared.database.Row.{Row}
use Rattle.pt_ast.specs.declared.database.Spot.{Spot}
use Rattle.pt_rowfile.specs.declared.record.Record.TheVariants.{Delete, Put}
use Rattle.pt_rowfile.specs.Records.{IsRecord}
use Rattle.pt_rowfile.specs.Written.{IsShortRow}
use Rattle.pt_store.specs.Contents.{files_in}
use Rattle.pt_store.proofs.Listing.{tree_read}
use Rattle.pt_holds.specs.Batch.{IsRowFileOf}
use Rattle.pt_holds.specs.Texts.{Adds, deletes_text, puts_text}
use Rattle.pt_holds.proofs.Batches.{batch_is}
use Rattle.pt_holds.proofs.Short.{fit_short}
use Rattle.pt_holds.proofs.batch.batch_of.Goals as goal

pub add_puts-requires-clause-short : goal.add_puts-requires-clause-short
add_puts-requires-clause-short c =
    subst (All (λ (p : Spot × Row). IsShortRow p.1)) (sym c.items-2.ensures)
    (λ k d within. fit_short c.args.def.now _ c.requires.storable c.requires.valid (c.requires.change.fit k d within) (c.requires.change.serials k d within))

pub returns : goal.returns
returns c =
    let def = c.args.def.now in
    let change = c.args.change.now in
    let first = files_in c.new-texts.result in
    let second = files_in c.add_deletes.new.texts in
    let third = files_in c.add_puts.new.texts in
    batch_is c.in_ok-batch.batch def change first second third (files_in c.add_next.new.texts) c.requires.valid c.requires.change c.in_ok-batch.ensures.rising
    (λ query. sym (tree_read c.new-texts.result query) ∙ ap (λ es. by_name es query) c.new-texts.ensures.empty)
    (subst (λ xs. Adds first second (deletes_text change.table def xs) (IsRowFileOf change.table def)) c.items.ensures c.in_ok-add_deletes.ensures.adds)
    (subst (λ xs. Adds second third (puts_text change.table def xs) (IsRowFileOf change.table def)) c.items-2.ensures c.in_ok-add_puts.ensures.adds)
    c.in_ok-add_next.ensures
    (λ query. ap (λ es. by_name es query) c.in_ok-batch.ensures.files ∙ tree_read c.add_next.new.texts query)
    c.in_ok-batch.ensures.few
    (subst (All (λ (e : Spot × ℕ). IsRecord (Delete e.1))) c.items.ensures c.in_ok-add_deletes.ensures.records)
    (subst (All (λ (p : Spot × Row). IsRecord (Put p.1))) c.items-2.ensures c.in_ok-add_puts.ensures.records)
