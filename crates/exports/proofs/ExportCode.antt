-- The words of an answer. Assumes nothing.
use mathlib.Core.Path.{◌≡◌, refl, ap, ◌∙◌, subst}
use mathlib.Core.Bool.{true}
use mathlib.Core.List.{List, [], ◌∷◌}
use Prim.Native.Nat.{ℕ}
use borrow.Author.Rules.{rules}
use lib.ListN.{length}
use Rattle.parse_tree.specs.Plain.Tree.{Stage}
use Rattle.parse_tree.specs.declared.refusal.Refusal.{Refusal}
use Rattle.passes.specs.Outcome.{Outcome, yes, no}
use Rattle.passes.specs.Calls.{macros_call, whole, answer_words}
use Rattle.output.specs.Plain.Answers.{answer_of, Called, Exported, Checked, CheckedWords}
use Rattle.std.specs.Prelude.{Result, Ok, Err}
use Rattle.output.specs.Working.Handing.{words_of}

-- ---- `words`
module _ (r : Result ℕ Refusal) where
  pub words_yes : (n m : ℕ) → r ≡ Ok n → m ≡ n → 1 ∷ m ∷ 0 ∷ 0 ∷ 0 ∷ [] ≡ words_of r
  unfolding words_of
  words_yes n m e p = rw (e, p)

  pub words_no : (why : Refusal) (k a b : ℕ) → r ≡ Err why → k ≡ why.number → a ≡ why.from → b ≡ why.to → 0 ∷ k ∷ a ∷ b ∷ 0 ∷ [] ≡ words_of r
  unfolding words_of
  words_no why k a b e p t z = rw (e, p, t, z)

pub ruleset wording = (rules, words_yes, words_no)

-- ---- the exports
words_are : (x : Outcome Stage) → words_of (answer_of x) ≡ answer_words 2 x
unfolding words_of answer_of answer_words
words_are (yes g) = refl
words_are (no n s) = refl

pub exported : (x : Outcome Stage) (s o w : List ℕ) (r : Result ℕ Refusal) (o' w' : List ℕ) → Called x s o w r o' w' → (ws : List ℕ) → ws ≡ words_of r → Exported x s o w ws o' w'
exported x s o w r o' w' c ws e = record { answered = e ∙ ap words_of c.answered ∙ words_are x; tree = c.tree; zeroed = c.zeroed }

pub checked : (x : Outcome Stage) (s w : List ℕ) (r : Result ℕ Refusal) (w' : List ℕ) → Checked x s w r w' → (ws : List ℕ) → ws ≡ words_of r → CheckedWords x s w ws w'
checked x s w r w' c ws e = record { answered = e ∙ ap words_of c.answered ∙ words_are x; zeroed = c.zeroed }

-- the limit as a word
limited : (call : ℕ → Outcome Stage) (n x : ℕ) → x ≡ n → (s o w : List ℕ) (r : Result ℕ Refusal) (o' w' : List ℕ) → Called (call x) s o w r o' w' → (ws : List ℕ) → ws ≡ words_of r → Exported (call n) s o w ws o' w'
limited call n x e s o w r o' w' c ws f = exported (call n) s o w r o' w' (subst (λ (k : ℕ). Called (call k) s o w r o' w') e c) ws f

pub exported_macros : (n x : ℕ) → x ≡ n → (s o w : List ℕ) (r : Result ℕ Refusal) (o' w' : List ℕ) → Called (macros_call true 2 s x (length o) (length w)) s o w r o' w' → (ws : List ℕ) → ws ≡ words_of r
    → Exported (macros_call true 2 s n (length o) (length w)) s o w ws o' w'
exported_macros n x e s o w = limited (λ (k : ℕ). macros_call true 2 s k (length o) (length w)) n x e s o w

pub exported_whole : (n x : ℕ) → x ≡ n → (s o w : List ℕ) (r : Result ℕ Refusal) (o' w' : List ℕ) → Called (whole true 2 s x (length o) (length w)) s o w r o' w' → (ws : List ℕ) → ws ≡ words_of r
    → Exported (whole true 2 s n (length o) (length w)) s o w ws o' w'
exported_whole n x e s o w = limited (λ (k : ℕ). whole true 2 s k (length o) (length w)) n x e s o w

pub ruleset exporting = (rules, exported, checked)

pub ruleset exporting_limited = (rules, exported_macros, exported_whole)
