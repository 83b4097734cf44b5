-- What the cells say of a name, once the globals are entered and an item's arguments marked, is what `lookup` says. Assumes nothing.
use mathlib.Core.Path.{◌≡◌, refl, sym, ap, ◌∙◌}
use mathlib.Core.Bool.{Bool, true, false, cond, false≢true}
use mathlib.Core.Logic.{◌⊎◌, inl, inr}
use mathlib.Core.Option.{Option, none, some}
use mathlib.Core.List.{List, [], ◌∷◌}
use Prim.Native.Nat.{ℕ, suc, ◌+◌, ◌-◌, ◌<◌}
use native.Mathlib.Omega.{arith}
use borrow.Author.Tests.{lt-leb, le-leb, ne_eqb}
use lib.ListN.{length}
use Rattle.octets.specs.Working.Choice.{pick}
use Rattle.octets.specs.Plain.Runs.{same_as}
use Rattle.octets.proofs.SameLaws.{same_as-eq}
use Rattle.parse_tree.specs.Plain.Tree.{Text}
use Rattle.parse_tree.specs.Plain.Texts.{has, number}
use Rattle.parse_tree.specs.Working.Within.{Each}
use Rattle.parse_tree.proofs.AmongLaws.{has-cases}
use Rattle.parse_tree.proofs.TextLaws.{number-below, text_number}
use Rattle.texts.specs.declared.Map.{Map}
use Rattle.passes.specs.Outcome.{Tree}
use Rattle.passes.specs.Resolve.{Def, terminal_def, nonterminal_def, argument_def, Global, globals, def_in, lookup}
use Rattle.resolve.specs.Cells.{known_at}
use Rattle.resolve.proofs.CellsLaws.{known_none}
use Rattle.resolve.proofs.NamesMean.{meant}
use Rattle.resolve.proofs.GlobalsTable.{code_of, code_of_option, Coded, Plain, Proper, def_proper}
use Rattle.resolve.proofs.ArgumentsMean.{Marked}

-- a text that is none has the number behind the last
number-none : (ts : List Text) (x : Text) → has x ts ≡ false → number ts x ≡ length ts
unfolding has number
number-none [] x h = refl
number-none (t ∷ ts) x h = go (same_as t x) (λ q. number-none ts x q) h
  where
    go : (b : Bool) → (has x ts ≡ false → number ts x ≡ length ts) → elim b [ true ↦ true | false ↦ has x ts ] ≡ false → elim b [ true ↦ 0 | false ↦ suc (number ts x) ] ≡ suc (length ts)
    go true f q = absurd (false≢true (sym q))
    go false f q = ap suc (f q)

-- the texts of ps are among ts
among : (ts ps : List Text) (x : Text) → Each (λ y. has y ts ≡ true) ps → has x ps ≡ true → has x ts ≡ true
unfolding has
among ts [] x h e = absurd (false≢true e)
among ts (p ∷ ps) x h e = go (has-cases x p ps e) (λ q. among ts ps x h.1 q)
  where
    go : (p ≡ x) ⊎ (has x ps ≡ true) → (has x ps ≡ true → has x ts ≡ true) → has x ts ≡ true
    go (inl q) f = rw (← q) h.0
    go (inr q) f = f q

-- no global has a name that is none of ts
defined-none : (ts : List Text) (x : Text) (gs : List Global) → Each (Proper ts) gs → has x ts ≡ false → def_in x gs ≡ none
defined-none ts x [] h e = refl
defined-none ts x (g ∷ gs) h e = go (same_as x g.name) refl (defined-none ts x gs h.1 e)
  where
    go : (b : Bool) → same_as x g.name ≡ b → def_in x gs ≡ none → cond b (some g.def) (def_in x gs) ≡ none
    go true q f = let z = same_as-eq x g.name q in absurd (false≢true (sym e ∙ rw z h.0.atom))
    go false q f = f

-- ---- a cell's number as a definition
code_meant : (d : Def) → Plain d → code_of d < 512 → meant (code_of d) ≡ some d
unfolding meant pick
code_meant terminal_def h f = refl
code_meant (nonterminal_def k) h f =
    let z : k + 2 - 2 ≡ k = omega arith in
    rw (ne_eqb (k + 2) 0 (λ e. omega arith), lt-leb 512 (k + 2) (omega arith), ne_eqb (k + 2) 1 (λ e. omega arith), z) refl
code_meant argument_def h f = absurd h

option_meant : (ts : List Text) (x : Text) (gs : List Global) → Each (Proper ts) gs → meant (code_of_option (def_in x gs)) ≡ def_in x gs
unfolding meant pick
option_meant ts x gs h = go (def_in x gs) refl
  where
    go : (o : Option Def) → def_in x gs ≡ o → meant (code_of_option o) ≡ o
    go none e = refl
    go (some d) e = let p = def_proper ts x gs d h e in code_meant d p.0 p.1

argument-meant : (k : ℕ) → meant (k + 512) ≡ some argument_def
unfolding meant pick
argument-meant k = rw (ne_eqb (k + 512) 0 (λ e. omega arith), le-leb 512 (k + 512) (omega arith)) refl

module _ (m : Map) (ts : List Text) (c : m.count ≡ length ts) (G : Tree) (proper : Each (Proper ts) (globals G)) (w : List ℕ) (coded : Coded m ts w (globals G)) where
  pub known_coded : (x : Text) → has x ts ≡ true → known_at m w (number ts x) ≡ code_of_option (def_in x (globals G))
  known_coded x h = coded (number ts x) (number-below ts x h) ∙ ap (λ (y : Text). code_of_option (def_in y (globals G))) (text_number ts x h)

  -- nothing is marked
  pub known_small : (x : Text) → known_at m w (number ts x) < 512
  known_small x = go (has x ts) refl
    where
      code_small : (o : Option Def) → def_in x (globals G) ≡ o → code_of_option o < 512
      code_small none e = omega arith
      code_small (some d) e = (def_proper ts x (globals G) d proper e).1

      go : (b : Bool) → has x ts ≡ b → known_at m w (number ts x) < 512
      go true e = rw (known_coded x e) (code_small (def_in x (globals G)) refl)
      go false e = rw (known_none m w (number ts x) (omega (arith, number-none ts x e))) (let z : 0 < 512 = omega arith in z)

  -- ps are the arguments
  module _ (ps : List Text) (u : Each (λ x. has x ts ≡ true) ps) (v : List ℕ) (marked : Marked m ts w (λ y. has y ps) v) where
    pub looked_up : (x : Text) → meant (known_at m v (number ts x)) ≡ lookup G ps x
    unfolding pick meant
    looked_up x = go (has x ts) refl (has x ps) refl
      where
        nothing : meant 0 ≡ none
        nothing = refl

        go : (b : Bool) → has x ts ≡ b → (a : Bool) → has x ps ≡ a → meant (known_at m v (number ts x)) ≡ cond a (some argument_def) (def_in x (globals G))
        go true e true f = ap meant (marked x e ∙ ap (λ (z : Bool). pick z (known_at m w (number ts x) + 512) (known_at m w (number ts x))) f) ∙ argument-meant (known_at m w (number ts x))
        go true e false f =
            ap meant (marked x e ∙ ap (λ (z : Bool). pick z (known_at m w (number ts x) + 512) (known_at m w (number ts x))) f ∙ known_coded x e) ∙ option_meant ts x (globals G) proper
        go false e true f = absurd (false≢true (sym e ∙ among ts ps x u f))
        go false e false f = ap meant (known_none m v (number ts x) (omega (arith, number-none ts x e))) ∙ nothing ∙ sym (defined-none ts x (globals G) proper e)
