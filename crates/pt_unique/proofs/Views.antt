-- What a book is seen as, before and after.
use Rattle.std.proofs.Common.{◌≡◌, ◌≢◌, ℕ, cond, List, [], ◌∷◌, None, Some, sym, ap, ◌∙◌, subst}
use Rattle.std.specs.Prelude.{Result, Ok, Err, OnOk}
use Rattle.std.specs.Ordering.{nat_cmp}
use Rattle.std.specs.Map.{lookup, remove_entry}
use Rattle.std.specs.BTreeMap.{insert_entry, is_at}
use Rattle.pt_value.specs.declared.value.Value.{Value}
use Rattle.pt_ast.specs.declared.database.Row.{Row}
use Rattle.pt_unique.specs.Book.{Book, entered, entry_at, entry_of, mark_eq, without}
use Rattle.pt_unique.specs.Holders.{AreHolders}
use Rattle.pt_unique.proofs.Marks.{Mark}

abbrev pub book_of : List (List ℕ) → List (ℕ × List Mark) → Book
book_of keys entries = record { keys = keys; entries = entries }

pub empty_holders : (entries : List (ℕ × List Mark)) (holders : List (Mark × ℕ)) → entries ≡ [] → holders ≡ []
    → AreHolders (λ s. lookup (is_at (nat_cmp s)) entries) (λ m. lookup (mark_eq m) holders)
empty_holders [] [] e f s m = ((λ h. absurd cc), λ h. absurd cc)
empty_holders (x ∷ xs) hs e f s m = absurd cc
empty_holders [] (x ∷ xs) e f s m = absurd cc

pub on_ok_then : {T E : Type 0} (r : Result T E) (P Q : Type 0) → (P → Q) → OnOk r P → OnOk r Q
on_ok_then (Ok x) P Q then h = then h
on_ok_then (Err e) P Q then h = tt

pub view_entered : (keys looked : List (List ℕ)) (old new : List (ℕ × List Mark)) (row : Row) (book : Book) → book_of keys old ≡ book → looked ≡ keys
    → new ≡ insert_entry nat_cmp old row.serial (entry_of looked row.cells) → book_of keys new ≡ entered book row
view_entered keys looked old new row book is same changed =
    ap (book_of keys) (changed ∙ ap (λ ks. insert_entry nat_cmp old row.serial (entry_of ks row.cells)) same) ∙ ap (λ (b : Book). entered b row) is

pub view_without : (keys looked : List (List ℕ)) (old new : List (ℕ × List Mark)) (serial : ℕ) (cells : List Value) (book : Book) → book_of keys old ≡ book → looked ≡ keys
    → (lookup (is_at (nat_cmp serial)) old ≡ Some (entry_of looked cells) → new ≡ remove_entry (is_at (nat_cmp serial)) old)
    → entry_at book serial ≡ Some (entry_of book.keys cells) → book_of keys new ≡ without book serial
view_without keys looked old new serial cells book is same changed =
    subst (λ (b : Book). entry_at b serial ≡ Some (entry_of b.keys cells) → book_of keys new ≡ without b serial) is
    (λ h. ap (book_of keys) (changed (h ∙ ap (λ ks. Some (entry_of ks cells)) (sym same))))

pub view_same : (keys looked : List (List ℕ)) (old new : List (ℕ × List Mark)) (serial : ℕ) (cells : List Value) (book : Book) → book_of keys old ≡ book → looked ≡ keys
    → (lookup (is_at (nat_cmp serial)) old ≢ Some (entry_of looked cells) → new ≡ old)
    → entry_at book serial ≢ Some (entry_of book.keys cells) → book_of keys new ≡ book
view_same keys looked old new serial cells book is same changed =
    subst (λ (b : Book). entry_at b serial ≢ Some (entry_of b.keys cells) → book_of keys new ≡ b) is
    (λ h. ap (book_of keys) (changed (λ e. h (e ∙ ap (λ ks. Some (entry_of ks cells)) same))))

pub view_removed : (keys : List (List ℕ)) (old new : List (ℕ × List Mark)) (serial : ℕ) (book : Book) → book_of keys old ≡ book → new ≡ remove_entry (is_at (nat_cmp serial)) old → book_of keys new ≡ without book serial
view_removed keys old new serial book is changed = ap (book_of keys) changed ∙ ap (λ (b : Book). without b serial) is

pub view_at : (keys : List (List ℕ)) (old new : List (ℕ × List Mark)) (serial : ℕ) (book : Book) → book_of keys old ≡ book
    → ((other : ℕ) → lookup (is_at (nat_cmp other)) new ≡ cond (is_at (nat_cmp serial) other) None (lookup (is_at (nat_cmp other)) old))
    → (other : ℕ) → entry_at (book_of keys new) other ≡ cond (is_at (nat_cmp serial) other) None (entry_at book other)
view_at keys old new serial book is at other = at other ∙ ap (λ (b : Book). cond (is_at (nat_cmp serial) other) None (entry_at b other)) is
