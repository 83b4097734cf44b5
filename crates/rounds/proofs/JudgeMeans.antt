-- What `judge` says is what questions 20 and 21 say of a stage whose former atoms and items passed them. Assumes nothing.
use mathlib.Core.Path.{◌≡◌, refl, ap, ◌∙◌}
use mathlib.Core.Bool.{Bool, true, false, cond, not, ◌&&◌, ◌||◌}
use mathlib.Core.List.{List, [], ◌∷◌, ◌++◌}
use Prim.Native.Nat.{ℕ, ◌+◌}
use native.Mathlib.Omega.{arith}
use borrow.Author.Tests.{lt-ltb, le-ltb, lt-leb, le-leb, ltb-true, ltb-false}
use lib.Dec.{leb, ltb}
use lib.ListN.{length, length-append}
use Rattle.octets.specs.Working.Choice.{pick}
use Rattle.parse_tree.specs.Plain.Tree.{Text, Item, Stage}
use Rattle.parse_tree.specs.Plain.References.{stage_of}
use Rattle.parse_tree.specs.Plain.WriteTape.{bytes_of_each, tape_of}
use Rattle.parse_tree.specs.Working.Encode.{atom_bytes, item_bytes, stage_bytes}
use Rattle.parse_tree.specs.Working.Refusals.{refusal_at}
use Rattle.parse_tree.proofs.WriteTapeIs.{tape_is}
use Rattle.texts.specs.Atoms.{some_long}
use Rattle.passes.specs.Outcome.{yes, no}
use Rattle.passes.specs.Sizes.{each, item_fits, stage_fits}
use Rattle.passes.specs.Calls.{nowhere, sizes}
use Rattle.replacing.proofs.ThereBytes.{bytes_both}
use Rattle.rounds.specs.Judge.{verdict, admitted}

-- ---- lists
pub each_two : {A : Type 0} (f : A → Bool) (xs ys : List A) → each f (xs ++ ys) ≡ each f xs && each f ys
each_two f [] ys = refl
each_two f (x ∷ xs) ys = go (f x) (each_two f xs ys)
  where
    go : (b : Bool) → each f (xs ++ ys) ≡ each f xs && each f ys → b && each f (xs ++ ys) ≡ (b && each f xs) && each f ys
    go true e = e
    go false e = refl

abbrev pub short : Text → Bool
short t = ltb (length t) 65536

short_not : (t : Text) → short t ≡ not (ltb 65535 (length t))
short_not t = go (ltb 65535 (length t)) refl
  where
    go : (b : Bool) → ltb 65535 (length t) ≡ b → short t ≡ not b
    go true e = let z = ltb-true 65535 (length t) e in le-ltb (length t) 65536 (omega arith)
    go false e = let z = ltb-false 65535 (length t) e in lt-ltb (length t) 65536 (omega arith)

pub none_long : (ts : List Text) → each short ts ≡ not (some_long ts)
unfolding some_long
none_long [] = refl
none_long (t ∷ ts) = ap (λ (b : Bool). b && each short ts) (short_not t) ∙ go (ltb 65535 (length t)) (none_long ts)
  where
    go : (b : Bool) → each short ts ≡ not (some_long ts) → not b && each short ts ≡ not (b || some_long ts)
    go true e = refl
    go false e = e

-- ---- the stage
module _ (cap : ℕ) (ts us : List Text) (old new : List Item) (atoms : (stage_of ts (old ++ new)).atoms ≡ ts ++ us) (shorts : each short ts ≡ true) (fits : each item_fits old ≡ true) where
  abbrev g : Stage
  g = stage_of ts (old ++ new)

  abbrev all : List Text
  all = ts ++ us

  -- how many bytes it has
  abbrev pub bytes_in : ℕ
  bytes_in = length (bytes_of_each (atom_bytes 2) ts) + length (bytes_of_each (atom_bytes 2) us) + length (bytes_of_each (item_bytes 2 (ts ++ us)) old) + length (bytes_of_each (item_bytes 2 (ts ++ us)) new)

  tape_long : length (tape_of 2 g) ≡ bytes_in
  unfolding stage_of stage_bytes
  tape_long =
      ap length (tape_is 2 g)
      ∙ ap (λ (vs : List Text). length (bytes_of_each (atom_bytes 2) vs ++ bytes_of_each (item_bytes 2 vs) (old ++ new))) atoms
      ∙ length-append (bytes_of_each (atom_bytes 2) (ts ++ us)) (bytes_of_each (item_bytes 2 (ts ++ us)) (old ++ new))
      ∙ (omega (
        arith,
        ap length (bytes_both (atom_bytes 2) ts us),
        length-append (bytes_of_each (atom_bytes 2) ts) (bytes_of_each (atom_bytes 2) us),
        ap length (bytes_both (item_bytes 2 (ts ++ us)) old new),
        length-append (bytes_of_each (item_bytes 2 (ts ++ us)) old) (bytes_of_each (item_bytes 2 (ts ++ us)) new),
      ))

  fits_are : stage_fits 2 g ≡ leb (length ts + length us) 65536 && (not (some_long us) && each item_fits new)
  unfolding stage_fits stage_of
  fits_are =
      let a : each short (ts ++ us) ≡ not (some_long us) = each_two short ts us ∙ ap (λ (b : Bool). b && each short us) shorts ∙ none_long us in
      let b : each item_fits (old ++ new) ≡ each item_fits new = each_two item_fits old new ∙ ap (λ (c : Bool). c && each item_fits new) fits in
      ap (λ (vs : List Text). leb (length vs) 65536 && (each short vs && each item_fits (old ++ new))) atoms
      ∙ ap (λ (n : ℕ). leb n 65536 && (each short (ts ++ us) && each item_fits (old ++ new))) (length-append ts us)
      ∙ ap (λ (c : Bool). leb (length ts + length us) 65536 && (c && each item_fits (old ++ new))) a
      ∙ ap (λ (c : Bool). leb (length ts + length us) 65536 && (not (some_long us) && c)) b

  -- theorem: 20 and 21 of the stage are what is judged of its numbers
  pub judge_means : sizes 2 cap g ≡ admitted (verdict (length ts + length us) (some_long us) (not (each item_fits new)) bytes_in cap) g
  unfolding sizes verdict admitted refusal_at pick
  judge_means =
      ap (λ (b : Bool). cond b (cond (leb (length (tape_of 2 g)) cap) (yes g) (no 21 nowhere)) (no 20 nowhere)) fits_are
      ∙ ap (λ (n : ℕ). cond (leb (length ts + length us) 65536 && (not (some_long us) && each item_fits new)) (cond (leb n cap) (yes g) (no 21 nowhere)) (no 20 nowhere)) tape_long
      ∙ go (ltb 65536 (length ts + length us)) refl (some_long us) (each item_fits new) (ltb cap bytes_in) refl
    where
      go : (a : Bool) → ltb 65536 (length ts + length us) ≡ a → (b c d : Bool) → ltb cap bytes_in ≡ d
          → cond (leb (length ts + length us) 65536 && (not b && c)) (cond (leb bytes_in cap) (yes g) (no 21 nowhere)) (no 20 nowhere) ≡ admitted (verdict (length ts + length us) b (not c) bytes_in cap) g
      go true x b c d y = let l = lt-leb (length ts + length us) 65536 (ltb-true 65536 (length ts + length us) x) in cc
      go false x true c d y = let l = le-leb (length ts + length us) 65536 (ltb-false 65536 (length ts + length us) x) in cc
      go false x false false d y = let l = le-leb (length ts + length us) 65536 (ltb-false 65536 (length ts + length us) x) in cc
      go false x false true true y =
          let l = le-leb (length ts + length us) 65536 (ltb-false 65536 (length ts + length us) x) in
          let m = lt-leb bytes_in cap (ltb-true cap bytes_in y) in
          cc
      go false x false true false y =
          let l = le-leb (length ts + length us) 65536 (ltb-false 65536 (length ts + length us) x) in
          let m = le-leb bytes_in cap (ltb-false cap bytes_in y) in
          cc
