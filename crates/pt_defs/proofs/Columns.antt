-- Cells, columns and keys: what is written is read, and what is read was written.
use Rattle.std.proofs.Common.{◌≡◌, ℕ, zero, suc, ◌<◌, ◌≤◌, ◌^◌, Bool, true, false, cond, ◌==◌, List, [], ◌∷◌, ◌++◌, length, Option, Some, None, refl, sym, ap, ◌∙◌, subst, arith}
use Rattle.std.specs.Prelude.{Ok, Err, IfSome, nat_lt, codes}
use Rattle.std.specs.List.{flat_map}
use Rattle.std.proofs.lemmas.Bool.{ltb-true}
use Rattle.std.proofs.lemmas.Slice.Eq.{bytes_eq-Decides}
use Rattle.pt_value.specs.Ident.{IsIdent}
use Rattle.pt_value.specs.declared.value.Value.{Value}
use Rattle.pt_value.specs.declared.value.Value.TheVariants as value
use Rattle.pt_value.specs.declared.value.Kind.{Kind}
use Rattle.pt_value.specs.declared.value.Kind.TheVariants as kind
use Rattle.pt_bytes.specs.Numbers.{AreBytes, le_bytes}
use Rattle.pt_ast.specs.declared.table.Column.{Column}
use Rattle.pt_ast.specs.declared.table.Rank.{Rank}
use Rattle.pt_ast.specs.declared.table.Rank.TheVariants as rank
use Rattle.pt_ast.specs.declared.table.KeyDef.{KeyDef}
use Rattle.pt_ast.specs.StorableDef.{IsNamedByRank, IsShortValue}
use Rattle.pt_defs.specs.Spelling.{cell_text, column_text, default_text, flag, key_text, kind_text, list_text, name_text, positions_text, rank_code}
use Rattle.pt_defs.specs.Reading.{◌>>=◌, Read, Reader, byte_at, cell_at, cell_behind, column_at, count_at, day_at, default_at, flag_at, int_at, key_at, key_name_at, kind_at, kind_behind, list_at, made, many, may_name, meant, name_at, number_at, pass, position_at, positions_at, rank_at, rank_of, string_at}
use Rattle.pt_defs.specs.Fitting.{FitsCell, FitsKind}
use Rattle.pt_defs.proofs.Steps.{Codec, Was, AreBytes-behind, either, first, from_bind, from_made, from_meant, from_pass, in_row, last, one_ok, one_some, same_pair}
use Rattle.pt_defs.proofs.Items.{AreCounted, IsCount, byte_sound, count, day, int, name, number, position, so_many, string}

-- ---- a list behind how many items it has

module _ {A : Type 0} (reader : Reader A) (text : A → List ℕ) (P : A → Type 0) (codec : Codec reader text P) where
  pub list : (least : ℕ) → Codec (list_at least reader) (list_text text) (AreCounted reader text P codec least (2 ^ 32))
  unfolding list_at list_text
  list least = record {
    complete = λ xs rest is.
        first (count least (2 ^ 32)) (length xs) (flat_map text xs) rest _ is.count
        ∙ (so_many reader text P codec (length xs)).complete xs rest (record { each = is.each; number = refl });
    sound = λ bytes xs rest are e.
        let f = from_bind (λ (n : ℕ × List ℕ). many reader n.0 n.1) (count_at least (2 ^ 32) bytes) (xs, rest) e in
        let head = (count least (2 ^ 32)).sound bytes f.0.0 f.0.1 are f.1 in
        let was = (so_many reader text P codec f.0.0).sound f.0.1 xs rest head.are f.2 in
        record {
          is = record { each = was.is.each; count = subst (IsCount least (2 ^ 32)) (sym was.is.number) head.is };
          text_is = in_row bytes (le_bytes 4 (length xs)) f.0.1 (flat_map text xs) rest (head.text_is ∙ ap (λ m. le_bytes 4 m ++ f.0.1) (sym was.is.number)) was.text_is;
          are = was.are;
        };
  }

-- ---- a byte that stands for something

pub named_byte : {A : Type 0} (f : ℕ → Option A) (g : A → ℕ) → ((a : A) → f (g a) ≡ Some a) → ((n : ℕ) (a : A) → f n ≡ Some a → n ≡ g a)
    → Codec (λ bytes. byte_at bytes >>= λ code. meant bytes (f code.0) code.1) (λ a. g a ∷ []) (λ a. Unit {0})
unfolding byte_at
named_byte {A} f g back only = record {
  complete = λ a rest is. ap (λ o. meant (g a ∷ rest) o rest) (back a);
  sound = λ bytes a rest are e.
      let h = from_bind (λ (code : ℕ × List ℕ). meant bytes (f code.0) code.1) (byte_at bytes) (a, rest) e in
      let k = from_meant bytes (f h.0.0) h.0.1 (a, rest) h.2 in
      let at : bytes ≡ h.0.0 ∷ h.0.1 = byte_sound bytes h.0.0 h.0.1 h.1 in
      let p : A × List ℕ = (k.0, h.0.1) in
      same_pair (λ a. Unit {0}) (λ a. g a ∷ []) bytes p (a, rest) k.2
      (record { is = tt; text_is = at ∙ ap (λ n. n ∷ h.0.1) (only h.0.0 k.0 k.1); are = AreBytes-behind bytes (h.0.0 ∷ []) h.0.1 are at });
}

bit : (n : ℕ) → n < 2 → n ≡ flag (n == 1)
bit zero lt = refl
bit (suc zero) lt = refl
bit (suc (suc n)) lt = absurd (omega arith)

pub is_flag : Codec flag_at (λ b. flag b ∷ []) (λ b. Unit {0})
unfolding flag_at byte_at
is_flag = record {
  complete = λ b rest is. both b rest;
  sound = λ bytes b rest are e.
      let f = from_bind (λ (n : ℕ × List ℕ). pass (nat_lt n.0 2) bytes (n.0 == 1, n.1)) (byte_at bytes) (b, rest) e in
      let g = from_pass (nat_lt f.0.0 2) bytes (f.0.0 == 1, f.0.1) (b, rest) f.2 in
      let at : bytes ≡ f.0.0 ∷ f.0.1 = byte_sound bytes f.0.0 f.0.1 f.1 in
      same_pair (λ b. Unit {0}) (λ b. flag b ∷ []) bytes (f.0.0 == 1, f.0.1) (b, rest) g.1
      (record { is = tt; text_is = at ∙ ap (λ n. n ∷ f.0.1) (bit f.0.0 (ltb-true f.0.0 2 g.0)); are = AreBytes-behind bytes (f.0.0 ∷ []) f.0.1 are at });
}
  where
    both : (b : Bool) (rest : List ℕ) → flag_at (flag b ∷ rest) ≡ Ok (b, rest)
    both true rest = refl
    both false rest = refl

-- ---- cells

pub record IsCell (cell : Value) : Type 0 where
  pub short : IsShortValue cell
  pub fits : FitsCell cell

pub cell_complete : (cell : Value) (rest : List ℕ) → IsCell cell → cell_at (cell_text cell ++ rest) ≡ Ok (cell, rest)
unfolding cell_at cell_behind cell_text byte_at
cell_complete value.Null rest is = refl
cell_complete (value.Int n) rest is = ap (made value.Int) (int.complete n rest is.fits)
cell_complete (value.Day n) rest is = ap (made value.Day) (day.complete n rest is.fits)
cell_complete (value.Bytes bytes) rest is = ap (made value.Bytes) (string.complete bytes rest (is.short, is.fits))

-- a cell of a value that is made of another, behind a byte
abbrev Behind : ℕ → List ℕ → Value → List ℕ → Type 0
Behind kind rest cell more = Was IsCell cell_text (kind ∷ rest) cell more

pub behind_sound : (start : List ℕ) (kind : ℕ) (rest : List ℕ) (cell : Value) (more : List ℕ) → AreBytes rest → cell_behind start kind rest ≡ Ok (cell, more) → Was IsCell cell_text (kind ∷ rest) cell more
unfolding cell_behind cell_text
behind_sound start kind rest cell more are e =
    either kind 0 _ _ _ e (λ h e0. moved 0 h (null e0)) (λ e0.
    either kind 1 _ _ _ e0 (λ h e1. moved 1 h (number_of_int e1)) (λ e1.
    either kind 2 _ _ _ e1 (λ h e2. moved 2 h (number_of_day e2)) (λ e2.
    either kind 3 _ _ _ e2 (λ h e3. moved 3 h (of_bytes e3)) (λ e3. absurd (let bad : ◌≡◌ {A = Read Value} (Err (length start)) (Ok (cell, more)) = e3 in cc)))))
  where
    moved : (k : ℕ) → kind ≡ k → Behind k rest cell more → Behind kind rest cell more
    moved k h was = subst (λ n. Behind n rest cell more) (sym h) was

    null : ◌≡◌ {A = Read Value} (Ok (value.Null, rest)) (Ok (cell, more)) → Behind 0 rest cell more
    null f =
        let p : Value × List ℕ = (value.Null, rest) in
        let q : Value × List ℕ = (cell, more) in
        same_pair IsCell cell_text (0 ∷ rest) p q (one_ok p q f) (record { is = record { short = tt; fits = tt }; text_is = refl; are = are })

    number_of_int : made value.Int (int_at rest) ≡ Ok (cell, more) → Behind 1 rest cell more
    number_of_int f =
        let g = from_made value.Int (int_at rest) (cell, more) f in
        let was = int.sound rest g.0.0 g.0.1 are g.1 in
        same_pair IsCell cell_text (1 ∷ rest) (value.Int g.0.0, g.0.1) (cell, more) g.2 (record { is = record { short = tt; fits = was.is }; text_is = ap (λ (xs : List ℕ). 1 ∷ xs) was.text_is; are = was.are })

    number_of_day : made value.Day (day_at rest) ≡ Ok (cell, more) → Behind 2 rest cell more
    number_of_day f =
        let g = from_made value.Day (day_at rest) (cell, more) f in
        let was = day.sound rest g.0.0 g.0.1 are g.1 in
        same_pair IsCell cell_text (2 ∷ rest) (value.Day g.0.0, g.0.1) (cell, more) g.2 (record { is = record { short = tt; fits = was.is }; text_is = ap (λ (xs : List ℕ). 2 ∷ xs) was.text_is; are = was.are })

    of_bytes : made value.Bytes (string_at rest) ≡ Ok (cell, more) → Behind 3 rest cell more
    of_bytes f =
        let g = from_made value.Bytes (string_at rest) (cell, more) f in
        let was = string.sound rest g.0.0 g.0.1 are g.1 in
        same_pair IsCell cell_text (3 ∷ rest) (value.Bytes g.0.0, g.0.1) (cell, more) g.2
        (record { is = record { short = was.is.0; fits = was.is.1 }; text_is = ap (λ (xs : List ℕ). 3 ∷ xs) was.text_is; are = was.are })

pub cell : Codec cell_at cell_text IsCell
unfolding cell_at
cell = record {
  complete = cell_complete;
  sound = λ bytes x rest are e.
      let f = from_bind (λ (kind : ℕ × List ℕ). cell_behind bytes kind.0 kind.1) (byte_at bytes) (x, rest) e in
      let at : bytes ≡ f.0.0 ∷ f.0.1 = byte_sound bytes f.0.0 f.0.1 f.1 in
      subst (λ (b : List ℕ). Was IsCell cell_text b x rest) (sym at) (behind_sound bytes f.0.0 f.0.1 x rest (AreBytes-behind bytes (f.0.0 ∷ []) f.0.1 are at) f.2);
}

-- ---- kinds and defaults

kind_complete : (k : Kind) (rest : List ℕ) → FitsKind k → kind_at (kind_text k ++ rest) ≡ Ok (k, rest)
unfolding kind_at kind_behind kind_text byte_at
kind_complete kind.Int rest is = refl
kind_complete kind.BigInt rest is = refl
kind_complete kind.Date rest is = refl
kind_complete (kind.Binary most) rest is = ap (made kind.Binary) ((number 2).complete most rest (omega (arith, is)))

kind_behind_sound : (start : List ℕ) (code : ℕ) (rest : List ℕ) (k : Kind) (more : List ℕ) → AreBytes rest → kind_behind start code rest ≡ Ok (k, more) → Was FitsKind kind_text (code ∷ rest) k more
unfolding kind_behind kind_text
kind_behind_sound start code rest k more are e =
    either code 1 _ _ _ e (λ h e0. plain 1 kind.Int h e0 tt refl) (λ e0.
    either code 2 _ _ _ e0 (λ h e1. plain 2 kind.BigInt h e1 tt refl) (λ e1.
    either code 3 _ _ _ e1 (λ h e2. plain 3 kind.Date h e2 tt refl) (λ e2.
    either code 4 _ _ _ e2 (λ h e3. subst (λ n. Was FitsKind kind_text (n ∷ rest) k more) (sym h) (binary e3)) (λ e3. absurd (let bad : ◌≡◌ {A = Read Kind} (Err (length start)) (Ok (k, more)) = e3 in cc)))))
  where
    plain : (n : ℕ) (x : Kind) → code ≡ n → ◌≡◌ {A = Read Kind} (Ok (x, rest)) (Ok (k, more)) → FitsKind x → n ∷ rest ≡ kind_text x ++ rest → Was FitsKind kind_text (code ∷ rest) k more
    plain n x h f fits same =
        let p : Kind × List ℕ = (x, rest) in
        let q : Kind × List ℕ = (k, more) in
        same_pair FitsKind kind_text (code ∷ rest) p q (one_ok p q f) (record { is = fits; text_is = ap (λ n. n ∷ rest) h ∙ same; are = are })

    binary : made kind.Binary (number_at 2 rest) ≡ Ok (k, more) → Was FitsKind kind_text (4 ∷ rest) k more
    binary f =
        let g = from_made kind.Binary (number_at 2 rest) (k, more) f in
        let was = (number 2).sound rest g.0.0 g.0.1 are g.1 in
        let h : g.0.0 < 256 ^ 2 = was.is in
        let low : g.0.0 < 2 ^ 16 = omega arith in
        same_pair FitsKind kind_text (4 ∷ rest) (kind.Binary g.0.0, g.0.1) (k, more) g.2 (record { is = low; text_is = ap (λ (xs : List ℕ). 4 ∷ xs) was.text_is; are = was.are })

pub is_kind : Codec kind_at kind_text FitsKind
unfolding kind_at
is_kind = record {
  complete = kind_complete;
  sound = λ bytes x rest are e.
      let f = from_bind (λ (code : ℕ × List ℕ). kind_behind bytes code.0 code.1) (byte_at bytes) (x, rest) e in
      let at : bytes ≡ f.0.0 ∷ f.0.1 = byte_sound bytes f.0.0 f.0.1 f.1 in
      subst (λ (b : List ℕ). Was FitsKind kind_text b x rest) (sym at) (kind_behind_sound bytes f.0.0 f.0.1 x rest (AreBytes-behind bytes (f.0.0 ∷ []) f.0.1 are at) f.2);
}

pub default : Codec default_at default_text (λ d. IfSome d IsCell)
unfolding default_at default_text
default = record {
  complete = whole;
  sound = λ bytes d rest are e.
      let f = from_bind (λ (flag : Bool × List ℕ). cond flag.0 (made Some (cell_at flag.1)) (Ok (None, flag.1))) (flag_at bytes) (d, rest) e in
      let was = is_flag.sound bytes f.0.0 f.0.1 are f.1 in
      subst (λ (b : List ℕ). Was (λ d. IfSome d IsCell) default_text b d rest) (sym was.text_is) (behind f.0.0 f.0.1 d rest was.are f.2);
}
  where
    whole : (d : Option Value) (rest : List ℕ) → IfSome d IsCell → default_at (default_text d ++ rest) ≡ Ok (d, rest)
    whole None rest is = last is_flag false rest _ tt
    whole (Some x) rest is = first is_flag true (cell_text x) rest _ tt ∙ ap (made Some) (cell.complete x rest is)

    behind : (b : Bool) (mid : List ℕ) (d : Option Value) (rest : List ℕ) → AreBytes mid → cond b (made Some (cell_at mid)) (Ok (None, mid)) ≡ Ok (d, rest) → Was (λ d. IfSome d IsCell) default_text (flag b ∷ mid) d rest
    behind true mid d rest are e =
        let g = from_made Some (cell_at mid) (d, rest) e in
        let was = cell.sound mid g.0.0 g.0.1 are g.1 in
        same_pair (λ d. IfSome d IsCell) default_text (1 ∷ mid) (Some g.0.0, g.0.1) (d, rest) g.2 (record { is = was.is; text_is = ap (λ (xs : List ℕ). 1 ∷ xs) was.text_is; are = was.are })
    behind false mid d rest are e =
        let p : Option Value × List ℕ = (None, mid) in
        let q : Option Value × List ℕ = (d, rest) in
        same_pair (λ d. IfSome d IsCell) default_text (0 ∷ mid) p q (one_ok p q e) (record { is = tt; text_is = refl; are = are })

-- ---- columns

pub record IsColumn (column : Column) : Type 0 where
  pub name : IsIdent column.name
  pub kind : FitsKind column.kind
  pub default : IfSome column.default IsCell

pub column : Codec column_at column_text IsColumn
unfolding column_at column_text
column = record {
  complete = λ c rest is.
      first name c.name _ rest _ is.name ∙ first is_kind c.kind _ rest _ is.kind ∙ first is_flag c.not_null (default_text c.default) rest _ tt ∙ last default c.default rest _ is.default;
  sound = λ bytes c rest are e.
      let a = from_bind _ (name_at bytes) (c, rest) e in
      let n = name.sound bytes a.0.0 a.0.1 are a.1 in
      let b = from_bind _ (kind_at a.0.1) (c, rest) a.2 in
      let k = is_kind.sound a.0.1 b.0.0 b.0.1 n.are b.1 in
      let f = from_bind _ (flag_at b.0.1) (c, rest) b.2 in
      let w = is_flag.sound b.0.1 f.0.0 f.0.1 k.are f.1 in
      let g = from_bind _ (default_at f.0.1) (c, rest) f.2 in
      let d = default.sound f.0.1 g.0.0 g.0.1 w.are g.1 in
      let p : Column × List ℕ = (record { name = a.0.0; kind = b.0.0; not_null = f.0.0; default = g.0.0 }, g.0.1) in
      same_pair IsColumn column_text bytes p (c, rest) (one_ok p (c, rest) g.2)
      (record {
        is = record { name = n.is; kind = k.is; default = d.is };
        text_is = in_row bytes (name_text a.0.0) a.0.1 _ g.0.1 n.text_is
            (in_row a.0.1 (kind_text b.0.0) b.0.1 _ g.0.1 k.text_is (in_row b.0.1 (flag f.0.0 ∷ []) f.0.1 (default_text g.0.0) g.0.1 w.text_is d.text_is));
        are = d.are;
      });
}

-- ---- keys

rank_back : (r : Rank) → rank_of (rank_code r) ≡ Some r
rank_back rank.Primary = refl
rank_back rank.Unique = refl
rank_back rank.Plain = refl

rank_only : (n : ℕ) (r : Rank) → rank_of n ≡ Some r → n ≡ rank_code r
rank_only n r e =
    either n 1 _ _ _ e (λ h s. h ∙ ap rank_code (one_some rank.Primary r s)) (λ e.
    either n 2 _ _ _ e (λ h s. h ∙ ap rank_code (one_some rank.Unique r s)) (λ e.
    either n 3 _ _ _ e (λ h s. h ∙ ap rank_code (one_some rank.Plain r s)) (λ e. absurd (let bad : ◌≡◌ {A = Option Rank} None (Some r) = e in cc))))

pub is_rank : Codec rank_at (λ r. rank_code r ∷ []) (λ r. Unit {0})
unfolding rank_at
is_rank = named_byte rank_of rank_code rank_back rank_only

may_be : (r : Rank) (n : List ℕ) → IsNamedByRank r n → may_name r n ≡ true
may_be rank.Primary n is = (bytes_eq-Decides n (codes "PRIMARY")).1 is
may_be rank.Unique n is = refl
may_be rank.Plain n is = refl

may_only : (r : Rank) (n : List ℕ) → may_name r n ≡ true → IsNamedByRank r n
may_only rank.Primary n e = (bytes_eq-Decides n (codes "PRIMARY")).0 e
may_only rank.Unique n e = tt
may_only rank.Plain n e = tt

pub record IsKeyName (r : Rank) (n : List ℕ) : Type 0 where
  pub ident : IsIdent n
  pub named : IsNamedByRank r n

pub key_name : (r : Rank) → Codec (key_name_at r) name_text (IsKeyName r)
unfolding key_name_at
key_name r = record {
  complete = λ n rest is. last name n rest _ is.ident ∙ ap (λ b. pass b (name_text n ++ rest) (n, rest)) (may_be r n is.named);
  sound = λ bytes n rest are e.
      let f = from_bind (λ (name : List ℕ × List ℕ). pass (may_name r name.0) bytes name) (name_at bytes) (n, rest) e in
      let g = from_pass (may_name r f.0.0) bytes f.0 (n, rest) f.2 in
      let was = name.sound bytes f.0.0 f.0.1 are f.1 in
      same_pair (IsKeyName r) name_text bytes f.0 (n, rest) g.1 (record { is = record { ident = was.is; named = may_only r f.0.0 g.0 }; text_is = was.text_is; are = was.are });
}

module _ (width : ℕ) (few : width ≤ 2 ^ 32) where
  -- positions of columns, so many at least
  abbrev pub ArePlaces : ℕ → List ℕ → Type 0
  ArePlaces least numbers = AreCounted (position_at width) (le_bytes 4) (λ n. n < width) (position width few) least (2 ^ 32) numbers

  pub positions : (least : ℕ) → Codec (positions_at least width) positions_text (ArePlaces least)
  positions least = list (position_at width) (le_bytes 4) (λ n. n < width) (position width few) least

  pub record IsKey (key : KeyDef) : Type 0 where
    pub name : IsKeyName key.rank key.name
    pub columns : ArePlaces 1 key.columns

  pub is_key : Codec (key_at width) key_text IsKey
  unfolding key_at key_text
  is_key = record {
    complete = λ k rest is. first is_rank k.rank _ rest _ tt ∙ first (key_name k.rank) k.name _ rest _ is.name ∙ last (positions 1) k.columns rest _ is.columns;
    sound = λ bytes k rest are e.
        let a = from_bind _ (rank_at bytes) (k, rest) e in
        let r = is_rank.sound bytes a.0.0 a.0.1 are a.1 in
        let b = from_bind _ (key_name_at a.0.0 a.0.1) (k, rest) a.2 in
        let n = (key_name a.0.0).sound a.0.1 b.0.0 b.0.1 r.are b.1 in
        let f = from_bind _ (positions_at 1 width b.0.1) (k, rest) b.2 in
        let c = (positions 1).sound b.0.1 f.0.0 f.0.1 n.are f.1 in
        let p : KeyDef × List ℕ = (record { rank = a.0.0; name = b.0.0; columns = f.0.0 }, f.0.1) in
        same_pair IsKey key_text bytes p (k, rest) (one_ok p (k, rest) f.2)
        (record {
          is = record { name = n.is; columns = c.is };
          text_is = in_row bytes (rank_code a.0.0 ∷ []) a.0.1 _ f.0.1 r.text_is (in_row a.0.1 (name_text b.0.0) b.0.1 _ f.0.1 n.text_is c.text_is);
          are = c.are;
        });
  }
