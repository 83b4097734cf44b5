-- The text of a number: the ways out of the code. Assumes nothing.
use mathlib.Core.Path.{◌≡◌, sym, ap, ◌∙◌}
use mathlib.Core.List.{List, []}
use Prim.Native.Nat.{ℕ, ◌<◌, ◌≤◌}
use native.Mathlib.Omega.{arith}
use borrow.Author.Rules.{rules}
use lib.ListN.{get_or, get_or-eq_default}
use Rattle.texts.specs.declared.Map.{Map}
use Rattle.texts.specs.Fields.{mark_at}
use Rattle.texts.specs.Texts.{marked_text, Whole}
use Rattle.texts.specs.Table.{texts}
use Rattle.texts.proofs.TextCode.{length_texts, texts-at}
use Rattle.grades.specs.Grading.{Worded}

module _ (s w : List ℕ) (m : Map) (k : ℕ) where
  pub text_beyond : m.count ≤ k → [] ≡ get_or (texts s w m) k []
  unfolding texts
  text_beyond l = sym (get_or-eq_default (texts s w m) [] {n = k} (omega (arith, length_texts s w m.base m.count)))

  pub text_some : k < m.count → (y : ℕ) → y ≡ mark_at w m.base k → (t : List ℕ) → t ≡ marked_text s w y → t ≡ get_or (texts s w m) k []
  unfolding texts
  text_some l y p t e = e ∙ ap (marked_text s w) p ∙ sym (texts-at s w m.base m.count k l)

  pub text_whole : (y : ℕ) → Worded s w m → k < m.count → y ≡ mark_at w m.base k → Whole s w y
  text_whole y g h e = rw e (g.whole k h)

pub ruleset wording = (rules, text_beyond, text_some, text_whole)
