-- The numbers of built-in texts before appending: all words are 0, and no new text is built in. Assumes nothing.
use mathlib.Core.Path.{◌≡◌, refl, sym, ap, ◌∙◌}
use mathlib.Core.Bool.{false, false≢true}
use mathlib.Core.Logic.{inl}
use mathlib.Core.List.{List}
use Prim.Native.Nat.{ℕ, zero, suc, ◌+◌, ◌/◌, ◌%◌, ◌<◌, ◌≤◌}
use native.Mathlib.Omega.{arith}
use Rattle.parse_tree.specs.Plain.Tree.{Text}
use Rattle.parse_tree.specs.Plain.Texts.{has}
use Rattle.laws.specs.Keys.{built_ins}
use Rattle.expander.specs.declared.Ground.{Ground}
use Rattle.expander.specs.Ground.{size_in, key_at, list_place, list_at, printed_at}
use Rattle.expander.specs.Names.{listed_texts}
use Rattle.expander.proofs.NamedTexts.{has_more, described_even}
use Rattle.appending.specs.Built.{built_text, built_at, Built}
use Rattle.appending.proofs.BuiltLaws.{built_has}

-- n symbols were pushed, none of which prints as a built-in text; all new texts are prints of them
module _ (s w : List ℕ) (g : Ground) (n : ℕ) (other : (j : ℕ) → j < n → has (printed_at s w g (key_at w g j)) built_ins ≡ false) where
  none_new : (i : ℕ) → i < 9 → (c : ℕ) → ((k : ℕ) → k < c → (list_at w g k % 2 ≡ 0) × (list_at w g k / 2 < n)) → has (built_text i) (listed_texts s w g c) ≡ false
  unfolding listed_texts has
  none_new i h zero f = refl
  none_new i h (suc c) f =
      let (a, b) = f c (omega arith) in
      has_more (built_text i) _ (listed_texts s w g c) (none_new i h c (λ k l. f k (omega arith)))
      (λ e. false≢true (sym (other (list_at w g c / 2) b) ∙ ap (λ (t : Text). has t built_ins) (sym (described_even s w g (list_at w g c) a) ∙ e) ∙ built_has i h))

  -- theorem
  pub built_started : (c : ℕ) → n + 3 ≤ size_in g / 9 → g.buckets + 3 ≤ size_in g / 9 → list_place g (n + 9) ≤ g.keys → ((i : ℕ) → i < 9 → built_at w g i ≡ 0)
      → ((k : ℕ) → k < c → (list_at w g k % 2 ≡ 0) × (list_at w g k / 2 < n)) → Built s w g n c
  built_started c room heads list words f = record {
    room = room;
    heads = heads;
    list = list;
    other = other;
    words = λ i h. inl (record { word = words i h; new = none_new i h c f });
  }
