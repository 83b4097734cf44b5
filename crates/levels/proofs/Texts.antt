-- The new texts of a levelled tree are the names of its levels. Assumes nothing.
use mathlib.Core.Path.{◌≡◌, ap, ◌∙◌}
use mathlib.Core.Bool.{Bool}
use mathlib.Core.List.{List, [], ◌∷◌, ◌++◌, map, append-nil}
use mathlib.Core.Option.{Option, none, some}
use Prim.Native.Nat.{ℕ}
use Rattle.parse_tree.specs.Plain.Tree.{Text, Nonterminal, Item}
use Rattle.parse_tree.specs.Plain.Texts.{with_new}
use Rattle.parse_tree.specs.Plain.References.{texts_of_each, alternative_texts, item_texts}
use Rattle.parse_tree.specs.Working.Within.{Each, NonterminalWithin, ItemWithin}
use Rattle.passes.specs.Grades.{Graded}
use Rattle.passes.specs.Levels.{Group, substitute, substituted, fall_through, with_fall_through}
use Rattle.replacing.proofs.Growing.{Extends, extends_refl, extends_trans, extends_has, new_extends, new_append, new_there}
use Rattle.replacing.proofs.ThereBytes.{new_has}
use Rattle.levels.proofs.Graded.{GradedWithin}
use Rattle.levels.proofs.There.{LowerIn, item_there, level_there}

lower_later : (us vs : List Text) (o : Option Text) → Extends us vs → LowerIn us o → LowerIn vs o
lower_later us vs none p h = tt
lower_later us vs (some n) p h = extends_has us vs n p h

module _ (four : Bool) (wd : ℕ) (ts : List Text) where
  -- theorem: the item of a level, whose lower level's name is known, has no new text but its name
  pub level_texts : (us : List Text) (d : Nonterminal) (g : Group Graded) → Extends ts us → NonterminalWithin four wd ts d → Each (GradedWithin four wd ts) g.alternatives → LowerIn us g.lower
      → with_new us (item_texts (with_fall_through d (substituted d.name g))) ≡ with_new us (g.name ∷ [])
  unfolding item_texts with_fall_through substituted
  level_texts us d g p h gs low =
      let vs = with_new us (g.name ∷ []) in
      let q : Extends us vs = new_extends us (g.name ∷ []) in
      let rest = d.args ++ texts_of_each alternative_texts (map (substitute d.name g) g.alternatives ++ fall_through d.span g.lower) in
      new_append us (g.name ∷ []) rest
      ∙ new_there vs vs rest (extends_refl vs) (level_there four wd ts vs (extends_trans p q) d g h gs (new_has us g.name) (lower_later us vs g.lower q low))

  -- theorem: an item that stays has no new text
  pub plain-texts : (us : List Text) (x : Item) → Extends ts us → ItemWithin four wd ts x → with_new us (texts_of_each item_texts (x ∷ [])) ≡ us
  unfolding texts_of_each
  plain-texts us x p h = ap (with_new us) (append-nil (item_texts x)) ∙ new_there us us (item_texts x) (extends_refl us) (item_there four wd ts us p x h)
