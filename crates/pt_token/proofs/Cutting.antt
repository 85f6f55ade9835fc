-- The machine cuts at the first `;` outside quotes and comments.
use Rattle.std.proofs.Common.{◌≡◌, inl, inr, ℕ, suc, ◌+◌, ◌≤◌, cond, Bool, true, false, List, [], ◌∷◌, length, drop, Option, Some, None, refl, ap, ◌∙◌, sym, subst, arith, length-drop, zero}
use Rattle.std.specs.Prelude.{◌==◌, ◌&&◌, ◌||◌, slice_index, nat_lt, nat_le, ◌-◌, ◌*◌}
use Rattle.std.specs.Option.{option_map}
use Rattle.std.proofs.lemmas.Bool.{cases_Bool, eqb-true, false≢true}
use Rattle.pt_token.specs.declared.state.State.{State}
use Rattle.pt_token.specs.declared.state.State.TheVariants.{Plain, Quote, Escaped, Dash, Dashes, Line, Slash, Opened, Block, Star, Version, Read, ReadStar, ReadQuote, ReadEscaped}
use Rattle.pt_token.specs.Bytes.{is_white, is_digit}
use Rattle.pt_token.specs.Machine.{closing, from_plain, from_block, from_read, after_version, step, is_plain, is_outside, is_cut}
use Rattle.pt_token.specs.Pieces.{cut_in}
use Rattle.pt_token.specs.Ends.{line_end, quote_end}
use Rattle.pt_token.specs.Gap.{opened_end}
use Rattle.pt_token.specs.Outside.{behind_dash, behind_slash, behind_first, IsCutAt, here, later}
use Rattle.pt_token.proofs.Loops.{moved, moved-one, suc-moved}
use Rattle.pt_token.proofs.Ending.{line-ends, quote-ends}
use Rattle.pt_token.proofs.Opening.{opened-ends}

plain_is : (s : State) → is_plain s ≡ true → s ≡ Plain
plain_is Plain e = refl
plain_is _ e = absurd (false≢true e)

block_in : (b : ℕ) → is_outside (from_block b) ≡ false
block_in b = elim (b == 42) as (λ v. is_outside (cond v Star Block) ≡ false) [ true ↦ refl | false ↦ refl ]

read_in : (b : ℕ) → is_outside (from_read b) ≡ false
read_in b =
    elim (b == 39 || b == 34) as (λ v. is_outside (cond v (ReadQuote b) (cond (b == 42) ReadStar Read)) ≡ false) [
      | true ↦ refl
      | false ↦ elim (b == 42) as (λ v. is_outside (cond v ReadStar Read) ≡ false) [ true ↦ refl | false ↦ refl ]
    ]

-- A quote or a comment is left to nothing but the plain state. The test of the state behind it, by the test of a byte.
left_in : (v : Bool) (s : State) → is_outside s ≡ false → is_plain (cond v Plain s) ≡ false → is_outside (cond v Plain s) ≡ false
left_in true s inside other = absurd (false≢true (sym other))
left_in false s inside other = inside

either_in : (v : Bool) (s t : State) → is_outside s ≡ false → (is_plain t ≡ false → is_outside t ≡ false) → is_plain (cond v s t) ≡ false → is_outside (cond v s t) ≡ false
either_in true s t first second other = first
either_in false s t first second other = second other

version_by : (digit few read : Bool) (more inner other : State) → is_outside more ≡ false → is_outside inner ≡ false → is_outside other ≡ false
    → is_outside (cond digit (cond few more Block) (cond read inner other)) ≡ false
version_by true true read more inner other m o p = m
version_by true false read more inner other m o p = refl
version_by false few true more inner other m o p = o
version_by false few false more inner other m o p = p

version_in : (version b : ℕ) → is_outside (after_version version b) ≡ false
version_in version b = version_by (is_digit b) (nat_lt version 100000) (version == 1 || (nat_le 100000 version && nat_le version 150799)) (Version (10 * version + (b - 48))) (from_read b) (from_block b) refl (read_in b) (block_in b)

stays_in : (s : State) (b : ℕ) → is_outside s ≡ false → is_plain (step s b) ≡ false → is_outside (step s b) ≡ false
stays_in Plain b inside other = absurd (false≢true (sym inside))
stays_in Dash b inside other = absurd (false≢true (sym inside))
stays_in Dashes b inside other = absurd (false≢true (sym inside))
stays_in Slash b inside other = absurd (false≢true (sym inside))
stays_in (Quote mark) b inside other = either_in (b == 92) (Escaped mark) (cond (b == mark) Plain (Quote mark)) refl (left_in (b == mark) (Quote mark) refl) other
stays_in (Escaped mark) b inside other = refl
stays_in Line b inside other = left_in (b == 10) Line refl other
stays_in Opened b inside other = either_in (b == 33) (Version 1) (from_block b) refl (λ _. block_in b) other
stays_in Block b inside other = block_in b
stays_in Star b inside other = left_in (b == 47) (from_block b) (block_in b) other
stays_in (Version version) b inside other = version_in version b
stays_in Read b inside other = read_in b
stays_in ReadStar b inside other = left_in (b == 47) (from_read b) (read_in b) other
stays_in (ReadQuote mark) b inside other = either_in (b == 92) (ReadEscaped mark) (cond (b == mark) Read (ReadQuote mark)) refl (λ _. elim (b == mark) as (λ v. is_outside (cond v Read (ReadQuote mark)) ≡ false) [ true ↦ refl | false ↦ refl ]) other
stays_in (ReadEscaped mark) b inside other = refl

-- a byte that is no `;`, or stands in a quote or a comment
step-other : (s : State) (b : ℕ) (bytes : List ℕ) → is_cut s b ≡ false → cut_in s (b ∷ bytes) ≡ option_map suc (cut_in (step s b) bytes)
unfolding cut_in
step-other s b bytes e = ap (λ v. cond v (Some 0) (option_map suc (cut_in (step s b) bytes))) e

not_here : (s : State) (b : ℕ) → (b == 59) ≡ false → is_cut s b ≡ false
not_here s b e = ap (λ v. v && is_outside s) e

not_inside : (s : State) (b : ℕ) → is_outside s ≡ false → is_cut s b ≡ false
not_inside s b e = elim (b == 59) as (λ v. (v && is_outside s) ≡ false) [ true ↦ e | false ↦ refl ]

-- the cut behind what ends n bytes on
abbrev behind : Option ℕ → List ℕ → Option ℕ
behind None bytes = None
behind (Some n) bytes = moved n (cut_in Plain (drop n bytes))

suc-behind : (end : Option ℕ) (b : ℕ) (bytes : List ℕ) → option_map suc (behind end bytes) ≡ behind (option_map suc end) (b ∷ bytes)
suc-behind None b bytes = refl
suc-behind (Some n) b bytes = suc-moved n (cut_in Plain (drop n bytes))

closing-byte : (s : State) (b : ℕ) (bytes : List ℕ) (v : Bool) → is_plain s ≡ v → (v ≡ false → cut_in s bytes ≡ behind (closing s bytes) bytes)
    → option_map suc (cut_in s bytes) ≡ behind (cond v (Some 1) (option_map suc (closing s bytes))) (b ∷ bytes)
closing-byte s b bytes true e h = ap (λ t. option_map suc (cut_in t bytes)) (plain_is s e) ∙ moved-one (cut_in Plain bytes)
closing-byte s b bytes false e h = ap (option_map suc) (h refl) ∙ suc-behind (closing s bytes) b bytes

-- in a quote or a comment the cut comes behind its end
cut-closing : (bytes : List ℕ) (s : State) → is_outside s ≡ false → cut_in s bytes ≡ behind (closing s bytes) bytes
unfolding cut_in closing
cut-closing [] s inside = refl
cut-closing (b ∷ bytes) s inside =
    step-other s b bytes (not_inside s b inside)
    ∙ closing-byte (step s b) b bytes (is_plain (step s b)) refl (λ other. cut-closing bytes (step s b) (stays_in s b inside other))

-- the same by the ends that are told without the machine
cut-line : (bytes : List ℕ) → cut_in Line bytes ≡ behind (line_end bytes) bytes
cut-line bytes = cut-closing bytes Line refl ∙ ap (λ end. behind end bytes) (line-ends bytes)

cut-quote : (mark : ℕ) (bytes : List ℕ) → cut_in (Quote mark) bytes ≡ behind (quote_end mark false bytes) bytes
cut-quote mark bytes = cut-closing bytes (Quote mark) refl ∙ ap (λ end. behind end bytes) (quote-ends mark false bytes)

cut-opened : (bytes : List ℕ) → cut_in Opened bytes ≡ behind (opened_end bytes) bytes
cut-opened bytes = cut-closing bytes Opened refl ∙ ap (λ end. behind end bytes) (opened-ends bytes)

-- `--` without white space behind it is two bytes like others
step-dashes : (b : ℕ) → is_white b ≡ false → step Dashes b ≡ step Dash b
step-dashes b dark = elim (cases_Bool (b == 10)) [
  | inl e ↦ absurd (false≢true (sym (subst (λ n. is_white n ≡ false) (eqb-true b 10 e) dark)))
  | inr e ↦ ap (λ v. cond (b == 45) Dashes (cond v Plain (cond (is_white b) Line (from_plain b)))) e ∙ ap (λ v. cond (b == 45) Dashes (cond v Line (from_plain b))) dark
]

cut-dashes : (bytes : List ℕ) → is_white (slice_index bytes 0) ≡ false → cut_in Dashes bytes ≡ cut_in Dash bytes
unfolding cut_in
cut-dashes [] dark = refl
cut-dashes (b ∷ bytes) dark = ap (λ s. cond (b == 59 && true) (Some 0) (option_map suc (cut_in s bytes))) (step-dashes b dark)

cut-white : (bytes : List ℕ) → is_white (slice_index bytes 0) ≡ true → cut_in Dashes bytes ≡ cut_in Line bytes
unfolding cut_in
cut-white [] white = refl
cut-white (b ∷ bytes) white = elim (cases_Bool (b == 59)) [
  | inl e ↦ absurd (false≢true (subst (λ n. is_white n ≡ true) (eqb-true b 59 e) white))
  | inr e ↦ elim (cases_Bool (b == 45)) [
    | inl f ↦ absurd (false≢true (subst (λ n. is_white n ≡ true) (eqb-true b 45 f) white))
    | inr f ↦ step-other Dashes b bytes (not_here Dashes b e)
        ∙ ap (λ v. option_map suc (cut_in (cond v Dashes (cond (b == 10) Plain (cond (is_white b) Line (from_plain b)))) bytes)) f
        ∙ ap (λ v. option_map suc (cut_in (cond (b == 10) Plain (cond v Line (from_plain b))) bytes)) white
        ∙ sym (step-other Line b bytes (not_here Line b e))
  ]
]

behind-zero : (bytes : List ℕ) → cut_in Plain bytes ≡ behind (Some 0) bytes
behind-zero bytes = elim (cut_in Plain bytes) as (λ cut. cut ≡ moved 0 cut) [ None ↦ refl | Some n ↦ ap Some (omega arith) ]

two_dashes : (bytes : List ℕ) → cut_in Dash (45 ∷ bytes) ≡ behind (behind_dash (45 ∷ bytes)) (45 ∷ bytes)
unfolding cut_in
two_dashes bytes = elim (cases_Bool (is_white (slice_index bytes 0))) [
  | inl e ↦ ap (option_map suc) (cut-white bytes e ∙ cut-line bytes) ∙ suc-behind (line_end bytes) 45 bytes
      ∙ ap (λ v. behind (cond v (option_map suc (line_end bytes)) (Some 0)) (45 ∷ bytes)) (sym e)
  | inr e ↦ ap (option_map suc) (cut-dashes bytes e) ∙ behind-zero (45 ∷ bytes)
      ∙ ap (λ v. behind (cond v (option_map suc (line_end bytes)) (Some 0)) (45 ∷ bytes)) (sym e)
]

cut-dash : (bytes : List ℕ) → cut_in Dash bytes ≡ behind (behind_dash bytes) bytes
unfolding cut_in
cut-dash [] = refl
cut-dash (c ∷ bytes) = elim (cases_Bool (c == 45)) [
  | inr e ↦ ap (λ v. cond (c == 59 && true) (Some 0) (option_map suc (cut_in (cond v Dashes (from_plain c)) bytes))) e
      ∙ behind-zero (c ∷ bytes) ∙ ap (λ v. behind (cond (v && is_white (slice_index bytes 0)) (option_map suc (line_end bytes)) (Some 0)) (c ∷ bytes)) (sym e)
  | inl e ↦ subst (λ n. cut_in Dash (n ∷ bytes) ≡ behind (behind_dash (n ∷ bytes)) (n ∷ bytes)) (sym (eqb-true c 45 e)) (two_dashes bytes)
]

cut-slash : (bytes : List ℕ) → cut_in Slash bytes ≡ behind (behind_slash bytes) bytes
unfolding cut_in
cut-slash [] = refl
cut-slash (c ∷ bytes) = elim (cases_Bool (c == 42)) [
  | inr e ↦ ap (λ v. cond (c == 59 && true) (Some 0) (option_map suc (cut_in (cond v Opened (from_plain c)) bytes))) e
      ∙ behind-zero (c ∷ bytes) ∙ ap (λ v. behind (cond v (option_map suc (opened_end bytes)) (Some 0)) (c ∷ bytes)) (sym e)
  | inl e ↦ subst (λ n. cut_in Slash (n ∷ bytes) ≡ behind (behind_slash (n ∷ bytes)) (n ∷ bytes)) (sym (eqb-true c 42 e))
      (ap (option_map suc) (cut-opened bytes) ∙ suc-behind (opened_end bytes) 42 bytes)
]

first_state : (b : ℕ) (bytes : List ℕ) → cut_in (from_plain b) bytes ≡ behind (behind_first b bytes) bytes
first_state b bytes =
    elim (b == 39 || b == 34) as (λ v. cut_in (cond v (Quote b) (cond (b == 35) Line (cond (b == 45) Dash (cond (b == 47) Slash Plain)))) bytes
    ≡ behind (cond v (quote_end b false bytes) (cond (b == 35) (line_end bytes) (cond (b == 45) (behind_dash bytes) (cond (b == 47) (behind_slash bytes) (Some 0))))) bytes) [
      | true ↦ cut-quote b bytes
      | false ↦ elim (b == 35) as (λ v. cut_in (cond v Line (cond (b == 45) Dash (cond (b == 47) Slash Plain))) bytes
          ≡ behind (cond v (line_end bytes) (cond (b == 45) (behind_dash bytes) (cond (b == 47) (behind_slash bytes) (Some 0)))) bytes) [
            | true ↦ cut-line bytes
            | false ↦ elim (b == 45) as (λ v. cut_in (cond v Dash (cond (b == 47) Slash Plain)) bytes ≡ behind (cond v (behind_dash bytes) (cond (b == 47) (behind_slash bytes) (Some 0))) bytes) [
              | true ↦ cut-dash bytes
              | false ↦ elim (b == 47) as (λ v. cut_in (cond v Slash Plain) bytes ≡ behind (cond v (behind_slash bytes) (Some 0)) bytes) [
                | true ↦ cut-slash bytes
                | false ↦ behind-zero bytes
              ]
            ]
          ]
    ]

-- the cut of bytes that begin with no `;`
cut-other : (b : ℕ) (bytes : List ℕ) → (b == 59) ≡ false → cut_in Plain (b ∷ bytes) ≡ option_map suc (behind (behind_first b bytes) bytes)
cut-other b bytes other = step-other Plain b bytes (not_here Plain b other) ∙ ap (option_map suc) (first_state b bytes)

-- the machine's cut is the first
pub cut_of_first : (bytes : List ℕ) (place : ℕ) → IsCutAt bytes place → cut_in Plain bytes ≡ Some place
unfolding cut_in
cut_of_first _ _ here = refl
cut_of_first _ _ (later {b = b} {n = n} {place = place} {bytes = bytes} other first rest) =
    cut-other b bytes other ∙ ap (λ end. option_map suc (behind end bytes)) first ∙ ap (λ cut. option_map suc (moved n cut)) (cut_of_first (drop n bytes) place rest)

-- what a cut behind n bytes tells
moved_some : (n place : ℕ) (cut : Option ℕ) → moved n cut ≡ Some place → (k : ℕ) × (cut ≡ Some k) × (place ≡ k + n)
moved_some n place None e = absurd (cc)
moved_some n place (Some k) e = (k, refl, cc)

suc_some : (place : ℕ) (cut : Option ℕ) → option_map suc cut ≡ Some place → (k : ℕ) × (cut ≡ Some k) × (place ≡ suc k)
suc_some place None e = absurd (cc)
suc_some place (Some k) e = (k, refl, cc)

behind_some : (end : Option ℕ) (bytes : List ℕ) (place : ℕ) → behind end bytes ≡ Some place → (n : ℕ) × (end ≡ Some n) × (moved n (cut_in Plain (drop n bytes)) ≡ Some place)
behind_some None bytes place e = absurd (cc)
behind_some (Some n) bytes place e = (n, refl, e)

first_here : (b : ℕ) (bytes : List ℕ) (place : ℕ) → (b == 59) ≡ true → cut_in Plain (b ∷ bytes) ≡ Some place → IsCutAt (b ∷ bytes) place
unfolding cut_in
first_here b bytes place semicolon e =
    let none : Some 0 ≡ Some place = sym (ap (λ v. cond (v && true) (Some 0) (option_map suc (cut_in (from_plain b) bytes))) semicolon) ∙ e in
    let first : 0 ≡ place = cc in
    subst (λ n. IsCutAt (n ∷ bytes) place) (sym (eqb-true b 59 semicolon)) (subst (IsCutAt (59 ∷ bytes)) first here)

first_in : (most : ℕ) (bytes : List ℕ) (place : ℕ) → length bytes ≤ most → cut_in Plain bytes ≡ Some place → IsCutAt bytes place
unfolding cut_in
first_in most [] place fits e = absurd (cc)
first_in zero (b ∷ bytes) place fits e = absurd (omega arith)
first_in (suc most) (b ∷ bytes) place fits e = elim (cases_Bool (b == 59)) [
  | inl semicolon ↦ first_here b bytes place semicolon e
  | inr other ↦
      let one = suc_some place (behind (behind_first b bytes) bytes) (sym (cut-other b bytes other) ∙ e) in
      let end = behind_some (behind_first b bytes) bytes one.0 one.1 in
      let cut = moved_some end.0 one.0 (cut_in Plain (drop end.0 bytes)) end.2 in
      let rest : IsCutAt (drop end.0 bytes) cut.0 = first_in most (drop end.0 bytes) cut.0 (omega (arith, length-drop end.0 bytes)) cut.1 in
      subst (IsCutAt (b ∷ bytes)) (sym (one.2 ∙ ap suc cut.2)) (later other end.1 rest)
]

pub first_of_cut : (bytes : List ℕ) (place : ℕ) → cut_in Plain bytes ≡ Some place → IsCutAt bytes place
first_of_cut bytes place e = first_in (length bytes) bytes place (omega arith) e
