-- What one name is answered: the ways out of the functions of names.rt. Assumes nothing.
use mathlib.Core.Path.{◌≡◌, refl}
use mathlib.Core.Logic.{◌⊎◌, inl, inr}
use Prim.Native.Nat.{ℕ, zero, suc}
use borrow.Author.Rules.{rules}
use borrow.Author.Tests.{eq-eqb, ne_eqb}
use Rattle.std.specs.Prelude.{Option, Some, None, Ok, Err}
use Rattle.octets.specs.Working.Choice.{pick}
use Rattle.parse_tree.specs.declared.refusal.Question.{Question}
use Rattle.resolve.specs.declared.Definition.{Definition}
use Rattle.resolve.specs.Names.{condition_says, nonterminal_says, macro_says, ambiguous_says}

-- ---- no definition
module _ (f : Option Definition) (e : f ≡ None) where
  pub condition_nothing : Err Question.Defined ≡ condition_says f
  unfolding condition_says
  condition_nothing = rw e refl

  pub nonterminal_nothing : Err Question.Defined ≡ nonterminal_says f
  unfolding nonterminal_says
  nonterminal_nothing = rw e refl

  pub macro_nothing : (k : ℕ) → Err Question.Defined ≡ macro_says f k
  unfolding macro_says
  macro_nothing k = rw e refl

  pub ambiguous_nothing : Err Question.Defined ≡ ambiguous_says f
  unfolding ambiguous_says
  ambiguous_nothing = rw e refl

-- ---- a definition
module _ (f : Option Definition) (d : Definition) (e : f ≡ Some d) where
  -- of a terminal
  module _ (h : d ≡ Definition.Terminal) where
    pub nonterminal_terminal : Err Question.Nonterminal ≡ nonterminal_says f
    unfolding nonterminal_says
    nonterminal_terminal = rw (e, h) refl

    pub ambiguous_terminal : Ok 33 ≡ ambiguous_says f
    unfolding ambiguous_says
    ambiguous_terminal = rw (e, h) refl

  -- of an argument
  module _ (n : ℕ) (h : d ≡ Definition.Argument n) where
    pub condition_argument : Ok tt ≡ condition_says f
    unfolding condition_says
    condition_argument = rw (e, h) refl

    pub nonterminal_argument : Ok tt ≡ nonterminal_says f
    unfolding nonterminal_says
    nonterminal_argument = rw (e, h) refl

    pub ambiguous_argument : Ok 36 ≡ ambiguous_says f
    unfolding ambiguous_says
    ambiguous_argument = rw (e, h) refl

  -- of what no cell has
  module _ (h : d ≡ Definition.Unknown) where
    pub condition_unknown : Err Question.ConditionName ≡ condition_says f
    unfolding condition_says
    condition_unknown = rw (e, h) refl

    pub nonterminal_unknown : Err Question.Nonterminal ≡ nonterminal_says f
    unfolding nonterminal_says
    nonterminal_unknown = rw (e, h) refl

    pub macro_unknown : (k : ℕ) → Err Question.Macro ≡ macro_says f k
    unfolding macro_says
    macro_unknown k = rw (e, h) refl

    pub ambiguous_unknown : Err Question.AmbiguousId ≡ ambiguous_says f
    unfolding ambiguous_says
    ambiguous_unknown = rw (e, h) refl

  -- of one of two sorts
  pub condition_global : (d ≡ Definition.Terminal) ⊎ ((n : ℕ) × (d ≡ Definition.Nonterminal n)) → Err Question.ConditionName ≡ condition_says f
  unfolding condition_says
  condition_global (inl h) = rw (e, h) refl
  condition_global (inr h) = rw (e, h.1) refl

  pub macro_none : (d ≡ Definition.Terminal) ⊎ ((n : ℕ) × (d ≡ Definition.Argument n)) → (k : ℕ) → Err Question.Macro ≡ macro_says f k
  unfolding macro_says
  macro_none (inl h) k = rw (e, h) refl
  macro_none (inr h) k = rw (e, h.1) refl

  -- of a nonterminal or a macro
  module _ (n : ℕ) (h : d ≡ Definition.Nonterminal n) where
    module _ (z : n ≡ 0) where
      pub nonterminal_plain : Ok tt ≡ nonterminal_says f
      unfolding nonterminal_says
      nonterminal_plain = rw (e, h, z) refl

      pub macro_plain : (k : ℕ) → Err Question.Macro ≡ macro_says f k
      unfolding macro_says
      macro_plain k = rw (e, h, z) refl

      pub ambiguous_plain : Ok 36 ≡ ambiguous_says f
      unfolding ambiguous_says
      ambiguous_plain = rw (e, h, z) refl

    pub nonterminal_macro : (n ≡ 0 → ⊥) → Err Question.Nonterminal ≡ nonterminal_says f
    unfolding nonterminal_says
    nonterminal_macro z = rw (e, h) (go n z)
      where
        go : (n : ℕ) → (n ≡ 0 → ⊥) → Err Question.Nonterminal ≡ nonterminal_says (Some (Definition.Nonterminal n))
        go zero z = absurd (z refl)
        go (suc n) z = refl

    pub ambiguous_macro : (n ≡ 0 → ⊥) → Err Question.AmbiguousId ≡ ambiguous_says f
    unfolding ambiguous_says
    ambiguous_macro z = rw (e, h) (go n z)
      where
        go : (n : ℕ) → (n ≡ 0 → ⊥) → Err Question.AmbiguousId ≡ ambiguous_says (Some (Definition.Nonterminal n))
        go zero z = absurd (z refl)
        go (suc n) z = refl

    pub macro_fine : (n ≡ 0 → ⊥) → (k : ℕ) → n ≡ k → Ok tt ≡ macro_says f k
    unfolding macro_says pick
    macro_fine z k i = rw (e, h) (go n z i)
      where
        go : (n : ℕ) → (n ≡ 0 → ⊥) → n ≡ k → Ok tt ≡ macro_says (Some (Definition.Nonterminal n)) k
        go zero z i = absurd (z refl)
        go (suc n) z i = rw (eq-eqb (suc n) k i) refl

    pub macro_count : (n ≡ 0 → ⊥) → (k : ℕ) → (n ≡ k → ⊥) → Err Question.ArgumentCount ≡ macro_says f k
    unfolding macro_says pick
    macro_count z k i = rw (e, h) (go n z i)
      where
        go : (n : ℕ) → (n ≡ 0 → ⊥) → (n ≡ k → ⊥) → Err Question.ArgumentCount ≡ macro_says (Some (Definition.Nonterminal n)) k
        go zero z i = absurd (z refl)
        go (suc n) z i = rw (ne_eqb (suc n) k i) refl

pub ruleset naming = (rules, condition_nothing, nonterminal_nothing, macro_nothing, ambiguous_nothing, nonterminal_terminal, ambiguous_terminal, condition_argument, nonterminal_argument, ambiguous_argument, condition_global, macro_none, nonterminal_plain, macro_plain, ambiguous_plain, nonterminal_macro, ambiguous_macro, macro_fine, macro_count, condition_unknown, nonterminal_unknown, macro_unknown, ambiguous_unknown)
