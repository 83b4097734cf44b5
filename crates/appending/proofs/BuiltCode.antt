-- What the proofs of `built` and its helpers use. Assumes nothing.
use mathlib.Core.Path.{◌≡◌, ap, ◌∙◌}
use mathlib.Core.Bool.{false}
use mathlib.Core.Logic.{◌⊎◌, inl, inr}
use mathlib.Core.List.{List}
use Prim.Native.Nat.{ℕ, ◌+◌, ◌*◌, ◌^◌, ◌<◌, ◌≤◌}
use native.Mathlib.Omega.{arith}
use mir.Syntax.{w64}
use mir.Val.{Fits}
use borrow.Author.Rules.{rules}
use lib.ListN.{length}
use Rattle.octets.specs.Plain.Numbers.{le}
use Rattle.octets.specs.Working.Stores.{store}
use Rattle.parse_tree.specs.Plain.Texts.{has}
use Rattle.std.specs.Prelude.{Option, Some, None}
use Rattle.texts.specs.Table.{Is, Finds, texts}
use Rattle.expander.specs.declared.Ground.{Ground}
use Rattle.expander.specs.Ground.{list_place, Grounded}
use Rattle.expander.proofs.GroundLaws.{keys_slots, slots_top}
use Rattle.appending.specs.declared.built.BuiltIn.{BuiltIn}
use Rattle.appending.specs.Built.{number_of, word_of, built_text, built_place, built_at, BuiltIs, BuiltNot, Built, Gives, SomeBuilt, GivesBuilt}
use Rattle.appending.proofs.BuiltRoom.{built_room}
use Rattle.appending.proofs.BuiltMeans.{length_found, given, word_inside, found_gives, next_gives}

-- ---- `first` and `built`
pub number_less : (t : BuiltIn) → number_of t < 9
number_less BuiltIn.EmptyVec = omega arith
number_less BuiltIn.Vector = omega arith
number_less BuiltIn.VecOfOne = omega arith
number_less BuiltIn.Pushed = omega arith
number_less BuiltIn.Element = omega arith
number_less BuiltIn.SomeOfOne = omega arith
number_less BuiltIn.Nothing = omega arith
number_less BuiltIn.Chosen = omega arith
number_less BuiltIn.All = omega arith

module _ (s w : List ℕ) (g : Ground) (n c i : ℕ) (e : Grounded s w g) (k : SomeBuilt s w g n c) (l : i < 9) where
  pub words_there : 72 ≤ g.slots
  words_there = omega (arith, e.fits, k.built.room)

  pub word_there : built_place g i + 8 ≤ length w
  word_there = word_inside s w g n c k.places e k.names k.built i l i l

  module _ (z : built_at w g i ≡ 0) (r : Option ℕ) (d : Finds (texts s w g.m) (built_text i) r) where
    unasked : Built s w g n c → BuiltNot s w g c i
    unasked b = go (b.words i l)
      where
        go : BuiltNot s w g c i ⊎ ((q : ℕ) × BuiltIs s w g c i q) → BuiltNot s w g c i
        go (inl x) = x
        go (inr (q, x)) = let y = x.word in absurd (omega arith)

    is_found : (q : ℕ) → r ≡ Some q → Is (texts s w g.m) (built_text i) q
    unfolding Finds
    is_found q y = rw y at d

    not_found : r ≡ None → has (built_text i) (texts s w g.m) ≡ false
    unfolding Finds
    not_found y = rw y at d

    pub found_less : (q : ℕ) → r ≡ Some q → q + 1 < 2 ^ 64
    found_less q y = omega (arith, (is_found q y).below, length_found s w g, e.records, keys_slots s w g e, slots_top s w g e, e.top, e.short)

    pub found_done : (q : ℕ) → r ≡ Some q → (w' : List ℕ) → w' ≡ store w (built_place g i) (le 8 (q + 1)) → GivesBuilt s w g n c i (record { number = q; count = c }) w'
    unfolding GivesBuilt
    found_done q y w' m ps h b = found_gives s w g n c ps e h b i l q (is_found q y) w' m

    pub next_room : r ≡ None → list_place g c + 8 ≤ length w
    next_room y = omega (arith, built_room s w g n c i (unasked k.built) (not_found y) k.places k.names k.built l, keys_slots s w g e, slots_top s w g e, e.top)

    pub next_number_fits : r ≡ None → Fits w64 (g.m.count + c)
    next_number_fits y = record { fits = omega (arith, next_room y, e.short) }

    pub next_count_fits : r ≡ None → Fits w64 (c + 1)
    next_count_fits y = record { fits = omega (arith, next_room y, e.short) }

    pub next_done : r ≡ None → (w' : List ℕ) → w' ≡ store (store w (list_place g c) (le 8 (2 * i + 1))) (built_place g i) (le 8 (g.m.count + c + 1))
        → GivesBuilt s w g n c i (record { number = g.m.count + c; count = c + 1 }) w'
    unfolding GivesBuilt
    next_done y w' m ps h b = next_gives s w g n c ps e h b i l (unasked b) (not_found y) w' m

pub ruleset asking = (rules, number_less, words_there, word_there, found_less, found_done, next_room, next_number_fits, next_count_fits, next_done)

-- ---- `built`
module _ (s w : List ℕ) (g : Ground) (n c i : ℕ) (o : Option ℕ) (f : built_at w g i ≡ word_of o) where
  pub word_asked : o ≡ None → built_at w g i ≡ 0
  word_asked e = f ∙ ap word_of e

  -- the word is the number and one
  pub given_done : Grounded s w g → i < 9 → (k : ℕ) → o ≡ Some k → GivesBuilt s w g n c i (record { number = k; count = c }) w
  unfolding GivesBuilt
  given_done e l k z ps h b = go (b.words i l)
    where
      there : built_at w g i ≡ k + 1
      there = f ∙ ap word_of z

      go : BuiltNot s w g c i ⊎ ((q : ℕ) × BuiltIs s w g c i q) → Gives s w g n c ps (built_text i) (record { number = k; count = c }) w
      go (inl x) = absurd (omega (arith, there, x.word))
      go (inr (q, x)) =
          let y : k ≡ q = omega (arith, there, x.word) in
          rw y (given s w g n c ps e h b i l q x)

pub ruleset building = (rules, number_less, words_there, word_there, word_asked, given_done)
