-- An atom by its number, and its class; whether texts are too long for atoms. Assumes nothing.
use mathlib.Core.Path.{◌≡◌, refl, sym, ap, ◌∙◌}
use mathlib.Core.Bool.{Bool, true, false, ◌||◌, true≢false}
use mathlib.Core.List.{List, [], ◌∷◌, ◌++◌}
use Prim.Native.Nat.{ℕ, zero, suc, ◌<◌, ◌≤◌}
use native.Mathlib.Omega.{arith}
use borrow.Author.Tests.{ltb-true, ltb-false, lt-ltb, le-ltb}
use lib.Dec.{ltb}
use lib.ListN.{length, get_or, length-append, get_or-append, get_or-eq_default}
use lib.Seq.{get_or-append_seam}
use Rattle.octets.specs.Working.Choice.{pick}
use Rattle.octets.proofs.ChoiceLaws.{by_pick}
use Rattle.parse_tree.specs.Plain.Tree.{Text}
use Rattle.parse_tree.specs.Plain.Texts.{every, is_identifier, is_name, is_literal}
use Rattle.texts.specs.Atoms.{atom_text, place_of, atoms_of, some_long}
use Rattle.texts.specs.Classes.{text_class, class_number}
use Rattle.texts.specs.declared.class.TextClass.{TextClass}

pub class_small : (t : Text) → text_class t < 4
unfolding text_class
class_small t =
    by_pick (λ r. r < 4) _ (λ _. omega arith) (λ _. by_pick (λ r. r < 4) _ (λ _. omega arith) (λ _. by_pick (λ r. r < 4) _ (λ _. omega arith) (λ _. omega arith)))

pub length_atoms : (s : List ℕ) (n : ℕ) → length (atoms_of s n) ≡ n
unfolding atoms_of
length_atoms s zero = refl
length_atoms s (suc n) = length-append (atoms_of s n) (atom_text s (place_of s n) ∷ []) ∙ (omega (arith, length_atoms s n))

pub atoms_at_lem : (s : List ℕ) (n k : ℕ) → k < n → get_or (atoms_of s n) k [] ≡ atom_text s (place_of s k)
unfolding atoms_of
atoms_at_lem s zero k h = absurd (omega arith)
atoms_at_lem s (suc n) k h = go (ltb k n) refl (atoms_at_lem s n k)
  where
    go : (b : Bool) → ltb k n ≡ b → (k < n → get_or (atoms_of s n) k [] ≡ atom_text s (place_of s k)) → get_or (atoms_of s n ++ (atom_text s (place_of s n) ∷ [])) k [] ≡ atom_text s (place_of s k)
    go true e i = let l = ltb-true k n e in get_or-append (atoms_of s n) (atom_text s (place_of s n) ∷ []) [] k (omega (arith, length_atoms s n)) ∙ i l
    go false e i =
        let l = ltb-false k n e in
        let z : k ≡ n = omega arith in
        let y : k ≡ length (atoms_of s n) = z ∙ sym (length_atoms s n) in
        ap (λ (j : ℕ). get_or (atoms_of s n ++ (atom_text s (place_of s n) ∷ [])) j []) y ∙ get_or-append_seam (atoms_of s n) (atom_text s (place_of s n)) [] []
        ∙ ap (λ (j : ℕ). atom_text s (place_of s j)) (sym z)

pub class_beyond : (s : List ℕ) (n k : ℕ) → n ≤ k → class_number TextClass.Literal ≡ text_class (get_or (atoms_of s n) k [])
unfolding text_class class_number is_name is_identifier is_literal every pick
class_beyond s n k h = rw (get_or-eq_default (atoms_of s n) [] {n = k} (omega (arith, length_atoms s n)))

-- ---- whether a text is too long, with one text more
pub long_yes : (ts : List Text) (t : Text) → 65535 < length t → some_long (ts ++ (t ∷ [])) ≡ true
unfolding some_long
long_yes [] t h = rw (lt-ltb 65535 (length t) h) refl
long_yes (u ∷ ts) t h = go (ltb 65535 (length u)) (long_yes ts t h)
  where
    go : (b : Bool) → some_long (ts ++ (t ∷ [])) ≡ true → b || some_long (ts ++ (t ∷ [])) ≡ true
    go true e = refl
    go false e = e

pub long_no : (ts : List Text) (t : Text) → length t ≤ 65535 → some_long (ts ++ (t ∷ [])) ≡ some_long ts
unfolding some_long
long_no [] t h = rw (le-ltb 65535 (length t) h) refl
long_no (u ∷ ts) t h = ap (λ (b : Bool). ltb 65535 (length u) || b) (long_no ts t h)

-- a text of texts that aren't too long
pub long_last : (ts : List Text) (t : Text) → some_long (ts ++ (t ∷ [])) ≡ false → length t ≤ 65535
long_last ts t e = go (ltb 65535 (length t)) refl
  where
    go : (b : Bool) → ltb 65535 (length t) ≡ b → length t ≤ 65535
    go true p = absurd (true≢false (sym (long_yes ts t (ltb-true 65535 (length t) p)) ∙ e))
    go false p = ltb-false 65535 (length t) p
