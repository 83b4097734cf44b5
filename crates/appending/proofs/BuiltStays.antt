-- What stays of the numbers of built-in texts where one text more is numbered. Assumes nothing.
use mathlib.Core.Path.{◌≡◌, refl, sym, ap, ◌∙◌}
use mathlib.Core.Bool.{Bool, true, false}
use mathlib.Core.List.{List, [], ◌∷◌, ◌++◌, append_assoc, append_cancel_left}
use Prim.Native.Nat.{ℕ, ◌<◌, ◌≤◌}
use native.Mathlib.Omega.{arith}
use lib.ListN.{length, get_or, length-append, get_or-append}
use Rattle.parse_tree.specs.Plain.Tree.{Text}
use Rattle.parse_tree.specs.Plain.Texts.{has, with_new}
use Rattle.texts.specs.Table.{texts}
use Rattle.replacing.proofs.NumbersMean.{new_known, new_unknown}
use Rattle.expander.specs.declared.Ground.{Ground}
use Rattle.expander.specs.Names.{listed_texts, named_in}
use Rattle.expander.proofs.NamedTexts.{has_more}
use Rattle.appending.specs.Built.{built_text, built_at, BuiltIs, BuiltNot}

-- with one more if it is new the numbers stay
module _ (ts : List Text) (x : Text) where
  pub new_longer : length ts ≤ length (with_new ts (x ∷ []))
  new_longer = go (has x ts) refl
    where
      go : (b : Bool) → has x ts ≡ b → length ts ≤ length (with_new ts (x ∷ []))
      go true e = rw (new_known ts x e) (omega arith)
      go false e = rw (new_unknown ts x e) (omega (arith, length-append ts (x ∷ [])))

  pub new_keeps : (k : ℕ) → k < length ts → get_or (with_new ts (x ∷ [])) k [] ≡ get_or ts k []
  new_keeps k l = go (has x ts) refl
    where
      go : (b : Bool) → has x ts ≡ b → get_or (with_new ts (x ∷ [])) k [] ≡ get_or ts k []
      go true e = rw (new_known ts x e) refl
      go false e = rw (new_unknown ts x e) (get_or-append ts (x ∷ []) [] k l)

-- ---- the text t is numbered
module _ (s w w' : List ℕ) (g : Ground) (c c' : ℕ) (t : Text) (found : texts s w' g.m ≡ texts s w g.m) (named : named_in s w' g c' ≡ with_new (named_in s w g c) (t ∷ [])) where
  -- the new texts then
  news_known : has t (named_in s w g c) ≡ true → listed_texts s w' g c' ≡ listed_texts s w g c
  unfolding named_in
  news_known e =
      append_cancel_left (texts s w g.m) (listed_texts s w' g c') (listed_texts s w g c)
      (ap (λ (ts : List Text). ts ++ listed_texts s w' g c') (sym found) ∙ named ∙ new_known (named_in s w g c) t e)

  news_more : has t (named_in s w g c) ≡ false → listed_texts s w' g c' ≡ listed_texts s w g c ++ (t ∷ [])
  unfolding named_in
  news_more e =
      append_cancel_left (texts s w g.m) (listed_texts s w' g c') (listed_texts s w g c ++ (t ∷ []))
      (ap (λ (ts : List Text). ts ++ listed_texts s w' g c') (sym found) ∙ named ∙ new_unknown (named_in s w g c) t e ∙ append_assoc (texts s w g.m) (listed_texts s w g c) (t ∷ []))

  -- theorem: a number that was given
  pub is_stays : (i k : ℕ) → built_at w' g i ≡ built_at w g i → BuiltIs s w g c i k → BuiltIs s w' g c' i k
  is_stays i k e b = record {
    word = e ∙ b.word;
    below = rw named (omega (arith, new_longer (named_in s w g c) t, b.below));
    is = ap (λ (ts : List Text). get_or ts k []) named ∙ new_keeps (named_in s w g c) t k b.below ∙ b.is;
  }

  -- theorem: a text that is not asked for, another being numbered
  pub not_stays : (i : ℕ) → built_at w' g i ≡ built_at w g i → (has t (named_in s w g c) ≡ false → t ≡ built_text i → ⊥) → BuiltNot s w g c i → BuiltNot s w' g c' i
  not_stays i e d b = record { word = e ∙ b.word; new = go (has t (named_in s w g c)) refl }
    where
      go : (x : Bool) → has t (named_in s w g c) ≡ x → has (built_text i) (listed_texts s w' g c') ≡ false
      go true z = ap (has (built_text i)) (news_known z) ∙ b.new
      go false z = ap (has (built_text i)) (news_more z) ∙ has_more (built_text i) t (listed_texts s w g c) b.new (d z)
