use Rattle.std.proofs.Common.{◌≡◌, ◌≤◌, List, ℕ, length, map, is_some, All, sym, ap, subst, ◌∙◌}
use Rattle.std.specs.Prelude.{IsTrue, false, Err}
use Rattle.pt_host.specs.Disk.{shown}
use Rattle.pt_host.specs.Listed.{FileList}
use Rattle.pt_left.specs.Left.{whole_name}
use Rattle.pt_store.specs.Entries.{AreWithin, bytes_of, files_at, length_in, size_of}
use Rattle.pt_store.specs.Reshape.{HasNames, IsReshaped, held, reshaped}
use Rattle.pt_store.specs.Step.{HasSizes, IsStep}
use Rattle.pt_store.specs.Store.{is_live, sizes}
use Rattle.pt_store.proofs.Fetched.{are_within}
use Rattle.pt_store.proofs.Moments.{looks_kept}
use Rattle.pt_store.proofs.Next.{reshaped_listed}
use Rattle.pt_store.proofs.Stepping.{step_behind, own_behind, stopped_look, each_stop, new_names, store_rising, store_serials, store_files, fresh_short, serials_stay}
use Rattle.pt_store.proofs.store.Store.reshape.Goals as goal

pub reshaped-requires-clause-short : goal.reshaped-requires-clause-short
reshaped-requires-clause-short g c =
    subst (λ files. All (λ (file : List ℕ × List ℕ). length file.0 ≤ 154) files) (sym c.items-2.ensures) (fresh_short (sizes c.args.self.now) c.args.fresh.now c.args.chain.now c.requires.reshape)

pub reshaped-requires-clause-within : goal.reshaped-requires-clause-within
reshaped-requires-clause-within g c = λ tells.
    let s = c.requires.stands tells in
    let bytes = bytes_of (shown (g.H.Host.world c.args.host.now).now.fs whole_name) in
    subst (λ entries. AreWithin bytes entries) (sym c.items.ensures) (are_within bytes c.args.self.now.entries s.0 s.1.here)

pub replace-requires-clause-serials : goal.replace-requires-clause-serials
replace-requires-clause-serials g c = λ tells.
    let s = c.requires.stands tells in
    let sound = g.met.H.Host.sound c.args.host.now tells in
    let w = g.H.Host.world c.args.host.now in
    let bytes = bytes_of (shown w.now.fs whole_name) in
    serials_stay (sizes c.args.self.now) c.args.fresh.now c.args.chain.now c.requires.reshape s.0 c.in-Ok.files (store_serials c.args.self.now s.0 w sound s.1)
    (subst (λ (files : FileList). IsReshaped c.args.fresh.now c.args.chain.now files c.in-Ok.files) (ap (files_at bytes) c.items.ensures ∙ store_files c.args.self.now s.0 w sound s.1)
    (subst (λ (fresh : FileList). IsReshaped fresh c.args.chain.now (files_at bytes c.items.result.now) c.in-Ok.files) c.items-2.ensures (c.in-Ok.ensures.files tells)))

pub returns-in-Ok-clause-told : goal.returns-in-Ok-clause-told
returns-in-Ok-clause-told g c = λ tells map store.
    let w = g.H.Host.world c.args.host.now in
    let mid = g.H.Host.world c.reshaped.new.host in
    let bytes = bytes_of (shown w.now.fs whole_name) in
    let looks = c.in-Ok.ensures.looks tells in (
      c.in-Ok.files,
      subst (λ (files : FileList). IsReshaped c.args.fresh.now c.args.chain.now files c.in-Ok.files) (ap (files_at bytes) c.items.ensures ∙ store_files c.args.self.now map w (g.met.H.Host.sound c.args.host.now tells) store)
          (subst (λ (fresh : FileList). IsReshaped fresh c.args.chain.now (files_at bytes c.items.result.now) c.in-Ok.files) c.items-2.ensures (c.in-Ok.ensures.files tells)),
      step_behind c.args.self.now c.replace.new.self map c.in-Ok.files w mid (g.H.Host.world c.replace.new.host) c.replace.result store looks
          (c.replace.ensures.told tells map (looks_kept w mid c.args.self.now map looks store)),
    )

pub returns-in-Ok-clause-others : goal.returns-in-Ok-clause-others
returns-in-Ok-clause-others g c = λ tells.
    own_behind (g.H.Host.world c.args.host.now) (g.H.Host.world c.reshaped.new.host) (g.H.Host.world c.replace.new.host) (c.in-Ok.ensures.looks tells) (c.replace.ensures.others tells)

pub returns-in-Ok-clause-after : goal.returns-in-Ok-clause-after
returns-in-Ok-clause-after g c =
    let before = c.args.self.now in
    let after = c.replace.new.self in
    each_stop c.replace.result (HasSizes after c.in-Ok.files)
    (IsTrue (is_live after) × ((name : List ℕ) → is_some (length_in (sizes after) name) ≡ is_some (reshaped c.args.fresh.now c.args.chain.now (held (sizes before)) name)))
    ((after ≡ before) × (g.H.Host.tells → g.H.Host.world c.replace.new.host ≡ g.H.Host.world c.reshaped.new.host)) (after ≡ before) (is_live after ≡ false)
    (λ has. new_names before after c.in-Ok.files c.args.fresh.now c.args.chain.now
    (subst (λ entries. HasNames (map size_of entries) c.args.fresh.now c.args.chain.now c.in-Ok.files) c.items.ensures
    (subst (λ (fresh : FileList). HasNames (map size_of c.items.result.now) fresh c.args.chain.now c.in-Ok.files) c.items-2.ensures c.in-Ok.ensures.names)) has)
    (λ kept. kept.0) c.replace.ensures.after

pub returns-in-Err-clause-told : goal.returns-in-Err-clause-told
returns-in-Err-clause-told g c = λ tells map store.
    let w = g.H.Host.world c.args.host.now in
    let mid = g.H.Host.world c.reshaped.new.host in
    let made = reshaped_listed c.args.fresh.now c.args.chain.now map (store_rising c.args.self.now map w (g.met.H.Host.sound c.args.host.now tells) store) in (
      made.0,
      made.1,
      subst (λ e. IsStep {T = Unit {0}} c.stopped.new.self map made.0 w mid (Err e)) (sym c.stopped.ensures.same)
          (stopped_look c.args.self.now c.stopped.new.self map made.0 c.in-Err.stop w mid (c.in-Err.ensures.looks tells) store c.stopped.ensures.after),
    )
