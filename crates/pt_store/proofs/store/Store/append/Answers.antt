use Rattle.std.proofs.Common.{◌≡◌, List, ℕ, map, sym, ap, ap₂, subst, ◌∙◌}
use Rattle.std.specs.Prelude.{Contains, IsTrue, false}
use Rattle.pt_host.specs.Disk.{shown}
use Rattle.pt_left.specs.Left.{serials_name, whole_name}
use Rattle.pt_store.specs.declared.entry.Entry.{Entry}
use Rattle.pt_store.specs.Batch.{appended}
use Rattle.pt_store.specs.Entries.{AreWithin, bytes_of, files_at}
use Rattle.pt_store.specs.Step.{HasSizes, IsStep}
use Rattle.pt_store.specs.Store.{is_live, sizes}
use Rattle.pt_store.proofs.Fetched.{are_within}
use Rattle.pt_store.proofs.Moments.{looks_kept}
use Rattle.pt_store.proofs.Stepping.{step_behind, own_behind, each_stop, same_names, store_serials, store_names, store_files}
use Rattle.pt_store.proofs.store.Store.append.Goals as goal

pub appended-requires-clause-within : goal.appended-requires-clause-within
appended-requires-clause-within g c = λ tells.
    let s = c.requires.stands tells in
    let bytes = bytes_of (shown (g.H.Host.world c.args.host.now).now.fs whole_name) in
    subst (λ entries. AreWithin bytes entries) (sym c.items.ensures) (are_within bytes c.args.self.now.entries s.0 s.1.here)

pub replace-requires-clause-serials : goal.replace-requires-clause-serials
replace-requires-clause-serials g c = λ tells.
    let s = c.requires.stands tells in
    let sound = g.met.H.Host.sound c.args.host.now tells in
    let w = g.H.Host.world c.args.host.now in
    subst (λ names. Contains names serials_name)
    (sym (c.in-Ok.ensures.names ∙ ap (map (λ (entry : Entry). entry.name)) c.items.ensures ∙ store_names c.args.self.now s.0 w sound s.1))
    (store_serials c.args.self.now s.0 w sound s.1)

pub returns-in-Ok-clause-told : goal.returns-in-Ok-clause-told
returns-in-Ok-clause-told g c = λ tells map store.
    let w = g.H.Host.world c.args.host.now in
    let mid = g.H.Host.world c.appended.new.host in
    let bytes = bytes_of (shown w.now.fs whole_name) in
    let looks = c.in-Ok.ensures.looks tells in
    let files : c.in-Ok.files ≡ appended c.args.batch.now map =
    (c.in-Ok.ensures.files tells ∙ ap₂ appended c.items-2.ensures (ap (files_at bytes) c.items.ensures ∙ store_files c.args.self.now map w (g.met.H.Host.sound c.args.host.now tells) store)) in
    step_behind c.args.self.now c.replace.new.self map (appended c.args.batch.now map) w mid (g.H.Host.world c.replace.new.host) c.replace.result store looks
    (subst (λ next. IsStep c.replace.new.self map next mid (g.H.Host.world c.replace.new.host) c.replace.result) files
    (c.replace.ensures.told tells map (looks_kept w mid c.args.self.now map looks store)))

pub returns-in-Ok-clause-others : goal.returns-in-Ok-clause-others
returns-in-Ok-clause-others g c = λ tells.
    own_behind (g.H.Host.world c.args.host.now) (g.H.Host.world c.appended.new.host) (g.H.Host.world c.replace.new.host) (c.in-Ok.ensures.looks tells) (c.replace.ensures.others tells)

pub returns-in-Ok-clause-after : goal.returns-in-Ok-clause-after
returns-in-Ok-clause-after g c =
    let before = c.args.self.now in
    let after = c.replace.new.self in
    each_stop c.replace.result (HasSizes after c.in-Ok.files)
    (IsTrue (is_live after) × (map (λ (size : List ℕ × ℕ). size.0) (sizes after) ≡ map (λ (size : List ℕ × ℕ). size.0) (sizes before)))
    ((after ≡ before) × (g.H.Host.tells → g.H.Host.world c.replace.new.host ≡ g.H.Host.world c.appended.new.host)) (after ≡ before) (is_live after ≡ false)
    (λ has. same_names before after c.in-Ok.files (c.in-Ok.ensures.names ∙ ap (map (λ (entry : Entry). entry.name)) c.items.ensures) has)
    (λ kept. kept.0) c.replace.ensures.after
