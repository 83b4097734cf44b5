-- The last stage of macro expansion in the output: the tape's atoms, the new ones and the items are its tree. Assumes nothing.
use mathlib.Core.Path.{◌≡◌, refl, sym, ap, ◌∙◌, subst}
use mathlib.Core.Bool.{Bool, true, false, ◌&&◌, false≢true}
use mathlib.Core.List.{List, [], ◌∷◌, ◌++◌, append_assoc}
use Prim.Native.Nat.{ℕ, ◌+◌, ◌-◌, ◌≤◌, ◌<◌}
use native.Mathlib.Omega.{arith}
use borrow.Author.Rules.{rules}
use borrow.Author.Tests.{ltb-true}
use lib.Dec.{ltb}
use lib.ListN.{length, drop, length-append}
use lib.Seq.{drop-append_seam}
use Rattle.octets.specs.Plain.Runs.{part, Lies}
use Rattle.octets.specs.Working.Stores.{store}
use Rattle.octets.proofs.PartLaws.{part_length}
use Rattle.octets.proofs.StoreLaws.{store-append, store_is}
use Rattle.octets.proofs.LiesLaws.{lies_part, lies_inside}
use Rattle.parse_tree.specs.Plain.Tree.{Text, Stage}
use Rattle.parse_tree.specs.Plain.WriteTape.{bytes_of_each, tape_of}
use Rattle.parse_tree.specs.Working.Encode.{atom_bytes, item_bytes, stage_bytes}
use Rattle.parse_tree.specs.Working.Within.{Each}
use Rattle.parse_tree.proofs.WriteTapeIs.{tape_is}
use Rattle.texts.specs.declared.Map.{Map}
use Rattle.texts.specs.Table.{texts}
use Rattle.texts.proofs.TextCode.{length_texts}
use Rattle.passes.specs.Sizes.{each}
use Rattle.passes.specs.Calls.{written}
use Rattle.replacing.proofs.ThereBytes.{bytes_both}
use Rattle.levels.specs.Fresh.{PutsNames}
use Rattle.rounds.proofs.RoundStages.{fine_parts, fits_parts}
use Rattle.output.specs.Plain.Answers.{answer_of}
use Rattle.std.specs.Prelude.{Ok}
use Rattle.output.specs.Working.Putting.{TextsFit}
use Rattle.output.specs.Working.Expanded.{LastStands, SomeLastStage, HandsLast}

both_parts : (a b : Bool) → a && b ≡ true → (a ≡ true) × (b ≡ true)
both_parts true b e = (refl, e)
both_parts false b e = absurd (false≢true e)

each-short : (us vs : List Text) → each (λ (t : Text). ltb (length t) 65536) (us ++ vs) ≡ true → Each (λ (t : Text). length t < 65536) vs
each-short [] [] e = tt
each-short [] (v ∷ vs) e = let (a, b) = both_parts (ltb (length v) 65536) (each (λ (t : Text). ltb (length t) 65536) vs) e in (ltb-true (length v) 65536 a, each-short [] vs b)
each-short (u ∷ us) vs e = each-short us vs (both_parts (ltb (length u) 65536) (each (λ (t : Text). ltb (length t) 65536) (us ++ vs)) e).1

module _ (s w : List ℕ) (at n cap : ℕ) (m : Map) (from end : ℕ) (g : Stage) (L : LastStands s w at n cap m from end g) where
  abbrev past : List Text
  past = L.past

  abbrev new : List ℕ
  new = bytes_of_each (atom_bytes 2) past

  abbrev items : List ℕ
  items = bytes_of_each (item_bytes 2 g.atoms) g.items

  rest-is : drop n (texts s w m) ≡ past
  rest-is =
      ap (λ (k : ℕ). drop k (texts s w m)) L.many ∙ ap (drop (length L.first)) (L.texts-are ∙ L.atoms) ∙ drop-append_seam L.first past

  first-is : at ≡ length (bytes_of_each (atom_bytes 2) L.first)
  first-is = omega (arith, part_length 0 at s L.inside, ap length L.tape_atoms)

  items_are : part (from) (end) w ≡ items
  items_are = lies_part w (from) (end) items L.items_lie

  -- the tree's bytes
  tree_is : tape_of 2 g ≡ part 0 at s ++ (new ++ part (from) (end) w)
  unfolding stage_bytes
  tree_is =
      tape_is 2 g
      ∙ ap (λ (xs : List ℕ). xs ++ items) (ap (bytes_of_each (atom_bytes 2)) L.atoms ∙ bytes_both (atom_bytes 2) L.first past)
      ∙ append_assoc (bytes_of_each (atom_bytes 2) L.first) new items
      ∙ ap (λ (xs : List ℕ). xs ++ (new ++ items)) (sym L.tape_atoms)
      ∙ ap (λ (xs : List ℕ). part 0 at s ++ (new ++ xs)) (sym items_are)

  pub last-size : at + length new + (end - from) ≤ cap
  unfolding stage_bytes
  last-size =
      omega (
        arith,
        (fine_parts cap g L.fits).1,
        first-is,
        length-append (bytes_of_each (atom_bytes 2) g.atoms) items,
        ap (λ (ts : List Text). length (bytes_of_each (atom_bytes 2) ts)) L.atoms,
        ap length (bytes_both (atom_bytes 2) L.first past),
        length-append (bytes_of_each (atom_bytes 2) L.first) new,
        L.items_lie.end,
      )

  upto : end ≤ length w
  upto = go items refl L.items_lie
    where
      go : (xs : List ℕ) → items ≡ xs → Lies w (from) xs (end) → end ≤ length w
      go [] e l = omega (arith, l.end, L.behind)
      go (x ∷ xs) e l = lies_inside w (from) (end) (x ∷ xs) (omega arith) l

  -- theorem: and it can be handed over
  pub some_last : SomeLastStage s w at n cap m from end
  some_last = record { stage = g; stands = L; ordered = omega (arith, L.items_lie.end); upto = upto; room = rw rest-is last-size }

module _ (s w : List ℕ) (at n cap : ℕ) (m : Map) (from end : ℕ) (K : SomeLastStage s w at n cap m from end) where
  abbrev L : LastStands s w at n cap m from end K.stage
  L = K.stands

  pub hand_inside : at ≤ length s
  hand_inside = L.inside

  pub hand_texts : (o₁ : List ℕ) → length o₁ ≡ cap → TextsFit s w m n (length o₁) at
  unfolding texts
  hand_texts o₁ e =
      let r = rest-is s w at n cap m from end K.stage L in
      record {
        table = L.table;
        upto = omega (arith, L.many, length_texts s w m.base m.count, ap length (L.texts-are ∙ L.atoms), length-append L.first L.past);
        short = rw r (each-short L.first L.past (subst (λ (ts : List Text). each (λ (t : Text). ltb (length t) 65536) ts ≡ true) L.atoms (fits_parts K.stage (fine_parts cap K.stage L.fits).0).1));
        fits = omega (arith, K.room);
      }

pub hand_done : (s w o : List ℕ) (at n : ℕ) (m : Map) (from end : ℕ) (o₁ : List ℕ) → o₁ ≡ store o 0 (part 0 at s) → (q : ℕ) (o₂ : List ℕ)
    → PutsNames o₁ at (bytes_of_each (atom_bytes 2) (drop n (texts s w m))) q o₂ → (o₃ : List ℕ) → o₃ ≡ store o₂ q (part (from) (end) w)
    → HandsLast s w at n m from end o (q + (end - from)) o₃
unfolding HandsLast answer_of written
hand_done s w o at n m from end o₁ x q o₂ p o₃ y g L =
    let new = bytes_of_each (atom_bytes 2) L.past in
    let e = rest-is s w at n (length o) m from end g L in
    let a = part 0 at s in
    let i = part (from) (end) w in
    let la = part_length 0 at s L.inside in
    let li = part_length (from) (end) w (upto s w at n (length o) m from end g L) in
    let k = last-size s w at n (length o) m from end g L in
    let b : o₂ ≡ store o₁ at new = p.bytes ∙ ap (λ (ts : List Text). store o₁ at (bytes_of_each (atom_bytes 2) ts)) e in
    let r : q ≡ at + length new = p.after ∙ ap (λ (ts : List Text). at + length (bytes_of_each (atom_bytes 2) ts)) e in
    let t = tree_is s w at n (length o) m from end g L in
    let l : length (tape_of 2 g) ≡ q + (end - from) = ap length t ∙ (omega (arith, length-append a (new ++ i), length-append new i)) in
    record {
      answered = ap Ok (sym l);
      tree =
          y ∙ ap (λ (u : List ℕ). store u q i) (b ∙ ap (λ (u : List ℕ). store u at new) x) ∙ store-append (store o 0 a) at q new i r
          ∙ store-append o 0 at a (new ++ i) (omega arith) ∙ store_is o 0 (a ++ (new ++ i)) (omega (arith, length-append a (new ++ i), length-append new i))
          ∙ (let j : 0 + length (a ++ (new ++ i)) ≡ length (a ++ (new ++ i)) = omega arith in ap (λ (c : ℕ). (a ++ (new ++ i)) ++ drop c o) j)
          ∙ ap (λ (xs : List ℕ). xs ++ drop (length xs) o) (sym t);
    }

pub ruleset handing_macros = (rules, hand_inside, hand_texts, hand_done)
