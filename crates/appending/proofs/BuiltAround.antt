-- The numbers of built-in texts stay where only bytes behind the slots and the items change. Assumes nothing.
use mathlib.Core.Path.{◌≡◌, refl, sym, ap, ◌∙◌}
use mathlib.Core.Logic.{◌⊎◌, inl, inr}
use mathlib.Core.List.{List, [], ◌++◌}
use Prim.Native.Nat.{ℕ, ◌+◌, ◌-◌, ◌*◌, ◌<◌}
use native.Mathlib.Omega.{arith}
use lib.ListN.{length, get_or, drop}
use lib.Seq.{drop-append_seam}
use Rattle.parse_tree.specs.Plain.Tree.{Text}
use Rattle.parse_tree.specs.Plain.Texts.{has}
use Rattle.laws.specs.Keys.{built_ins}
use Rattle.texts.specs.Fields.{mark_at}
use Rattle.texts.specs.Table.{Agree, texts}
use Rattle.texts.proofs.TableStays.{le_at-agree}
use Rattle.expander.specs.declared.Ground.{Ground}
use Rattle.expander.specs.Ground.{stage_in, top_of, key_at, list_place, printed_at, Grounded}
use Rattle.expander.specs.Names.{listed_texts, named_in}
use Rattle.expander.proofs.GroundLaws.{list_keys, slots_top}
use Rattle.appending.specs.Built.{built_text, built_at, BuiltIs, BuiltNot, Built}

-- theorem: the places of pushed symbols
pub key_agree : (s w w' : List ℕ) (g : Ground) → Grounded s w g → Agree w w' (list_place g 0) (top_of g) → (n c : ℕ) → Built s w g n c → (j : ℕ) → j < n → key_at w' g j ≡ key_at w g j
unfolding key_at mark_at
key_agree s w w' g r k n c b j h = le_at-agree 8 w w' (g.keys + 24 * j) (λ a x y. k.agree a (omega (arith, list_keys s w g r)) (omega (arith, slots_top s w g r, r.fits, b.room)))

module _ (s w w' : List ℕ) (g : Ground) (r : Grounded s w g) (k : Agree w w' (list_place g 0) (top_of g)) (items : stage_in w' g ≡ stage_in w g) (found : texts s w' g.m ≡ texts s w g.m)
    (n c : ℕ) (named : named_in s w' g c ≡ named_in s w g c) (b : Built s w g n c) where
  word_same : (i : ℕ) → i < 9 → built_at w' g i ≡ built_at w g i
  word_same i h =
      le_at-agree 8 w w' (g.slots - 72 + 8 * i)
      (λ a x y. k.agree a (omega (arith, list_keys s w g r, r.fits, b.room)) (omega (arith, slots_top s w g r, r.fits, b.room)))

  new_same : listed_texts s w' g c ≡ listed_texts s w g c
  unfolding named_in
  new_same =
      sym (drop-append_seam (texts s w' g.m) (listed_texts s w' g c))
      ∙ ap (drop (length (texts s w' g.m))) named
      ∙ ap (λ (ts : List Text). drop (length ts) (texts s w g.m ++ listed_texts s w g c)) found
      ∙ drop-append_seam (texts s w g.m) (listed_texts s w g c)

  pub built_agree : Built s w' g n c
  built_agree = record {
    room = b.room;
    heads = b.heads;
    list = b.list;
    other = λ j h. ap (λ (t : Text). has t built_ins) (print-same j h) ∙ b.other j h;
    words = λ i h. go i h (b.words i h);
  }
    where
      print-same : (j : ℕ) → j < n → printed_at s w' g (key_at w' g j) ≡ printed_at s w g (key_at w g j)
      print-same j h = rw (items, found, key_agree s w w' g r k n c b j h) refl

      go : (i : ℕ) → i < 9 → BuiltNot s w g c i ⊎ ((m : ℕ) × BuiltIs s w g c i m) → BuiltNot s w' g c i ⊎ ((m : ℕ) × BuiltIs s w' g c i m)
      go i h (inl x) = inl (record { word = word_same i h ∙ x.word; new = ap (has (built_text i)) new_same ∙ x.new })
      go i h (inr (m, x)) = inr (
        m,
        record {
          word = word_same i h ∙ x.word;
          below = omega (arith, x.below, ap length named);
          is = ap (λ (ts : List Text). get_or ts m []) named ∙ x.is;
        },
      )
