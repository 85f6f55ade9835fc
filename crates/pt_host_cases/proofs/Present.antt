-- The image with all pending names and present lengths has the files that are shown, with their lengths.
use Rattle.std.proofs.Common.{◌≡◌, ◌∙◌, ℕ, suc, ◌+◌, ◌*◌, ◌/◌, ◌%◌, Bool, true, false, cond, List, [], ◌∷◌, length, length-take, take, refl, sym, ap, arith}
use Rattle.std.specs.Prelude.{Option, Some, None}
use Rattle.std.specs.Option.{option_map}
use Rattle.std.proofs.Math.Seq.{take-length}
use Rattle.std.proofs.lemmas.Nat.{div-mul-add, mod-mul-add}
use Rattle.pt_host.specs.Disk.{Object, Fs, names_after, shown}
use Rattle.pt_memhost.specs.Pick.{filled, kept_by, left_by, picked}

length-filled : (fill : ℕ) (loose : List (ℕ × ℕ)) (place : ℕ) (bytes : List ℕ) → length (filled fill loose place bytes) ≡ length bytes
length-filled fill loose place [] = refl
length-filled fill loose place (byte ∷ bytes) = ap suc (length-filled fill loose (place + 1) bytes)

-- what is left of a file by its present length
left_length : (object : Object) → length (left_by 1 object) ≡ length object.bytes
left_length object = length-filled 0 object.loose 0 (take (length object.bytes) object.bytes) ∙ (simp length-take (omega arith))

left_lengths : (objects : ℕ → Object) (found : Option ℕ) → option_map length (option_map (λ object. left_by 1 (objects object)) found) ≡ option_map length (option_map (λ object. (objects object).bytes) found)
left_lengths objects None = refl
left_lengths objects (Some object) = ap Some (left_length (objects object))

pub present_lengths : (fs : Fs) (choice : ℕ) (name : List ℕ) → choice ≡ 1 * (length fs.pending + 1) + length fs.pending → option_map length (picked choice fs name) ≡ option_map length (shown fs name)
present_lengths fs choice name is =
    let n : ℕ = length fs.pending in
    let rest : choice / (n + 1) ≡ 1 = ap (λ c. c / (n + 1)) is ∙ div-mul-add 1 (n + 1) n (omega arith) in
    let front : choice % (n + 1) ≡ n = ap (λ c. c % (n + 1)) is ∙ mod-mul-add 1 (n + 1) n (omega arith) in
    let kept : kept_by choice fs.pending ≡ fs.pending = ap (λ k. take k fs.pending) front ∙ take-length fs.pending in
    ap (λ q. option_map length (option_map (λ object. left_by q (fs.objects object)) (names_after (kept_by choice fs.pending) fs.names name))) rest
    ∙ ap (λ ops. option_map length (option_map (λ object. left_by 1 (fs.objects object)) (names_after ops fs.names name))) kept
    ∙ left_lengths fs.objects (names_after fs.pending fs.names name)
