-- The holders stay those of the entries: where a row is entered, and where one leaves.
use Rattle.std.proofs.Common.{◌≡◌, ℕ, ◌≤◌, Bool, true, false, cond, List, Option, Some, None, refl, sym, ap, ap₂, ◌∙◌, subst}
use Rattle.std.specs.Ordering.{is_eq, nat_cmp}
use Rattle.std.specs.Cmp.{nat_cmp_total}
use Rattle.std.proofs.lemmas.Cmp.{tied_itself}
use Rattle.std.specs.BTreeMap.{is_at}
use Rattle.std.specs.FinMap.{nat_cmp-IsAntisymmetric}
use Rattle.pt_unique.specs.Book.{Book, agrees_at, entry_at, stands, IsFree, IsTaken}
use Rattle.pt_unique.specs.Hashed.{tie}
use Rattle.pt_unique.specs.Holders.{AreHolders, IsLeast, has, held_by, marks_of}
use Rattle.pt_unique.proofs.Marks.{Mark, never, stands_found, shares_found, shares_here}

abbrev pub Entries : Type 0
Entries = ℕ → Option (List Mark)

abbrev pub HeldBy : Type 0
HeldBy = Mark → Option ℕ

stands_marks : (entry : Option (List Mark)) (mark : Mark) → stands (marks_of entry) mark ≡ has entry mark
stands_marks None mark = refl
stands_marks (Some entry) mark = refl

same_serial : (k s : ℕ) → is_at (nat_cmp k) s ≡ true → k ≡ s
same_serial k s h = nat_cmp-IsAntisymmetric k s (tie (nat_cmp k s) h)

-- One serial changes: what stands in its new entry (`own`) was held by none, and what stood in its old entry is let go.
keeps : (entries later : Entries) (at now : HeldBy) (k : ℕ) (own : Mark → Bool) → AreHolders entries at
    → ((mark : Mark) → own mark ≡ true → at mark ≡ None)
    → ((s : ℕ) (mark : Mark) → has (later s) mark ≡ cond (is_at (nat_cmp k) s) (own mark) (has (entries s) mark))
    → ((mark : Mark) → now mark ≡ cond (own mark) (Some k) (cond (has (entries k) mark) None (at mark)))
    → AreHolders later now
keeps entries later at now k own are fresh changed moved s mark =
    go (is_at (nat_cmp k) s) refl (own mark) refl (has (entries k) mark) refl
  where
    Goal : Type 0
    Goal = (has (later s) mark ≡ true → now mark ≡ Some s) × (now mark ≡ Some s → has (later s) mark ≡ true)

    left_of : (here mine : Bool) → is_at (nat_cmp k) s ≡ here → own mark ≡ mine → has (later s) mark ≡ cond here mine (has (entries s) mark)
    left_of here mine e f = changed s mark ∙ ap₂ (λ (x y : Bool). cond x y (has (entries s) mark)) e f

    right_of : (mine old : Bool) → own mark ≡ mine → has (entries k) mark ≡ old → now mark ≡ cond mine (Some k) (cond old None (at mark))
    right_of mine old f g = moved mark ∙ ap₂ (λ (x y : Bool). cond x (Some k) (cond y None (at mark))) f g

    apart : is_at (nat_cmp k) s ≡ false → k ≡ s → ⊥
    apart e same = let itself : is_at (nat_cmp k) s ≡ true = subst (λ n. is_at (nat_cmp k) n ≡ true) same (ap is_eq (tied_itself nat_cmp_total k)) in cc

    one : (m n : ℕ) → Some m ≡ Some n → m ≡ n
    one m n e = cc

    go : (here : Bool) → is_at (nat_cmp k) s ≡ here → (mine : Bool) → own mark ≡ mine → (old : Bool) → has (entries k) mark ≡ old → Goal
    go true e true f old g =
        let l = left_of true true e f in
        let r = right_of true old f g in
        (λ h. r ∙ ap Some (same_serial k s e), λ h. l)
    go true e false f true g =
        let l = left_of true false e f in
        let r = right_of false true f g in
        (λ h. absurd (let bad : true ≡ false = sym h ∙ l in cc), λ h. absurd (let bad : None ≡ Some s = sym r ∙ h in cc))
    go true e false f false g =
        let l = left_of true false e f in
        let r = right_of false false f g in (
          λ h. absurd (let bad : true ≡ false = sym h ∙ l in cc),
          λ h. absurd (let bad : true ≡ false = sym ((are k mark).1 (sym r ∙ h ∙ ap Some (sym (same_serial k s e)))) ∙ g in cc),
        )
    go false e true f old g =
        let l = left_of false true e f in
        let r = right_of true old f g in
        (λ h. absurd (let bad : None ≡ Some s = sym (fresh mark f) ∙ (are s mark).0 (sym l ∙ h) in cc), λ h. absurd (apart e (one k s (sym r ∙ h))))
    go false e false f true g =
        let l = left_of false false e f in
        let r = right_of false true f g in
        (λ h. absurd (apart e (one k s (sym ((are k mark).0 g) ∙ (are s mark).0 (sym l ∙ h)))), λ h. absurd (let bad : None ≡ Some s = sym r ∙ h in cc))
    go false e false f false g =
        let l = left_of false false e f in
        let r = right_of false false f g in
        (λ h. r ∙ (are s mark).0 (sym l ∙ h), λ h. l ∙ (are s mark).1 (sym r ∙ h))

-- # Where a row is entered

has_changed : (k s : ℕ) (mine : Option (List Mark)) (entries later : Entries) (mark : Mark) → later s ≡ cond (is_at (nat_cmp k) s) mine (entries s)
    → has (later s) mark ≡ cond (is_at (nat_cmp k) s) (has mine mark) (has (entries s) mark)
has_changed k s mine entries later mark e = ap (λ (o : Option (List Mark)). has o mark) e ∙ go (is_at (nat_cmp k) s)
  where
    go : (b : Bool) → has (cond b mine (entries s)) mark ≡ cond b (has mine mark) (has (entries s) mark)
    go true = refl
    go false = refl

pub keeps_entered : (entries later : Entries) (at between now : HeldBy) (k : ℕ) (mine : List Mark) → AreHolders entries at
    → ((mark : Mark) → stands mine mark ≡ true → at mark ≡ None)
    → ((s : ℕ) → later s ≡ cond (is_at (nat_cmp k) s) (Some mine) (entries s))
    → ((mark : Mark) → between mark ≡ held_by (marks_of (entries k)) None at mark)
    → ((mark : Mark) → now mark ≡ held_by mine (Some k) between mark)
    → AreHolders later now
keeps_entered entries later at between now k mine are fresh changed gone held =
    keeps entries later at now k (stands mine) are fresh (λ s mark. has_changed k s (Some mine) entries later mark (changed s))
    (λ mark. held mark ∙ ap (λ (o : Option ℕ). cond (stands mine mark) (Some k) o) (gone mark ∙ ap (λ b. cond b None (at mark)) (stands_marks (entries k) mark)))

-- # Where a row leaves

pub keeps_left : (entries later : Entries) (at now : HeldBy) (k : ℕ) → AreHolders entries at
    → ((s : ℕ) → later s ≡ cond (is_at (nat_cmp k) s) None (entries s))
    → ((mark : Mark) → now mark ≡ held_by (marks_of (entries k)) None at mark)
    → AreHolders later now
keeps_left entries later at now k are changed gone =
    keeps entries later at now k (λ mark. false) are (λ mark h. absurd cc) (λ s mark. has_changed k s None entries later mark (changed s))
    (λ mark. gone mark ∙ ap (λ b. cond b None (at mark)) (stands_marks (entries k) mark))

-- # Whether a row agrees

-- no mark of an entry that agrees with none is held
pub unheld : (at : HeldBy) (mine : List Mark) → IsLeast at mine None → (mark : Mark) → stands mine mark ≡ true → at mark ≡ None
unheld at mine least mark h = go (at mark) refl
  where
    go : (o : Option ℕ) → at mark ≡ o → at mark ≡ None
    go None e = e
    go (Some s) e = absurd (let f = least.low s mark (stands_found mine mark h).0 e in let bad : None ≡ Some f.0 = f.1 in cc)

pub is_free : (book : Book) (at : HeldBy) (mine : List Mark) → AreHolders (λ serial. entry_at book serial) at → IsLeast at mine None → IsFree book mine
is_free book at mine are least serial = never (agrees_at book mine serial) (λ h.
    let found = shares_found mine (entry_at book serial) h in
    let low = least.low serial found.0 found.1 ((are serial found.0).0 found.2) in
    let bad : None ≡ Some low.0 = low.1 in cc)

pub is_taken : (book : Book) (at : HeldBy) (mine : List Mark) (serial : ℕ) → AreHolders (λ s. entry_at book s) at → IsLeast at mine (Some serial) → IsTaken book mine serial
is_taken book at mine serial are least = record {
  agrees = (let found = least.found serial refl in shares_here mine (entry_at book serial) found.0 found.1 ((are serial found.0).1 found.2));
  least = λ other h.
      let found = shares_found mine (entry_at book other) h in
      let low = least.low other found.0 found.1 ((are other found.0).0 found.2) in
      let same : Some serial ≡ Some low.0 = low.1 in
      let le : low.0 ≤ other = low.2 in
      subst (λ n. n ≤ other) (let e : low.0 ≡ serial = cc in e) le;
}

-- # With the equations of the code

pub enter_holders : (entries later : Entries) (at kept between now : HeldBy) (k : ℕ) (mine entry looked marks : List Mark) (before : Option (List Mark)) (least : Option ℕ)
    → AreHolders entries at → IsLeast at looked least → least ≡ None → looked ≡ mine → entry ≡ mine → marks ≡ mine → before ≡ entries k
    → ((mark : Mark) → kept mark ≡ at mark)
    → ((s : ℕ) → later s ≡ cond (is_at (nat_cmp k) s) (Some entry) (entries s))
    → ((mark : Mark) → between mark ≡ held_by (marks_of before) None kept mark)
    → ((mark : Mark) → now mark ≡ held_by marks (Some k) between mark)
    → AreHolders later now
enter_holders entries later at kept between now k mine entry looked marks before least are is none looked_is entry_is marks_is before_is same changed gone held =
    let own : IsLeast at mine None = subst (λ (ms : List Mark). IsLeast at ms None) looked_is (subst (λ (r : Option ℕ). IsLeast at looked r) none is) in
    keeps_entered entries later at between now k mine are (unheld at mine own)
    (λ s. changed s ∙ ap (λ (e : List Mark). cond (is_at (nat_cmp k) s) (Some e) (entries s)) entry_is)
    (λ mark. gone mark ∙ ap₂ (λ (o : Option (List Mark)) (x : Option ℕ). cond (stands (marks_of o) mark) None x) before_is (same mark))
    (λ mark. held mark ∙ ap (λ (ms : List Mark). cond (stands ms mark) (Some k) (between mark)) marks_is)

pub leave_holders : (entries later : Entries) (at now : HeldBy) (k : ℕ) (before : Option (List Mark)) → AreHolders entries at → before ≡ entries k
    → ((s : ℕ) → later s ≡ cond (is_at (nat_cmp k) s) None (entries s))
    → ((mark : Mark) → now mark ≡ held_by (marks_of before) None at mark)
    → AreHolders later now
leave_holders entries later at now k before are before_is changed gone =
    keeps_left entries later at now k are changed (λ mark. gone mark ∙ ap (λ (o : Option (List Mark)). cond (stands (marks_of o) mark) None (at mark)) before_is)

pub free_at : (book : Book) (at : HeldBy) (mine looked : List Mark) (least : Option ℕ) → AreHolders (λ s. entry_at book s) at → looked ≡ mine → least ≡ None → IsLeast at looked least → IsFree book mine
free_at book at mine looked least are same none is =
    is_free book at mine are (subst (λ (ms : List Mark). IsLeast at ms None) same (subst (λ (r : Option ℕ). IsLeast at looked r) none is))

pub taken_at : (book : Book) (at : HeldBy) (mine looked : List Mark) (serial : ℕ) (least : Option ℕ) → AreHolders (λ s. entry_at book s) at → looked ≡ mine → least ≡ Some serial → IsLeast at looked least
    → IsTaken book mine serial
taken_at book at mine looked serial least are same some is =
    is_taken book at mine serial are (subst (λ (ms : List Mark). IsLeast at ms (Some serial)) same (subst (λ (r : Option ℕ). IsLeast at looked r) some is))
