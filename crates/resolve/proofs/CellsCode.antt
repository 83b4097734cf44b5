-- What is known of a name: the ways out of known, define, def and of an entry's definition. Assumes nothing.
use mathlib.Core.Path.{◌≡◌, refl}
use mathlib.Core.List.{List}
use Prim.Native.Nat.{ℕ, ◌+◌, ◌-◌, ◌*◌, ◌≤◌, ◌<◌}
use borrow.Author.Rules.{rules}
use borrow.Author.Tests.{le-leb, lt-leb, ne_eqb}
use lib.ListN.{length}
use Rattle.std.specs.Prelude.{Option, Some, None}
use Rattle.octets.specs.Working.Choice.{pick}
use Rattle.octets.specs.Plain.Numbers.{le}
use Rattle.octets.specs.Working.Stores.{store}
use Rattle.octets.proofs.ChoiceLaws.{by_pick}
use Rattle.octets.proofs.StoreLaws.{length_store}
use Rattle.texts.specs.declared.Map.{Map}
use Rattle.texts.specs.Fields.{cell_at}
use Rattle.resolve.specs.declared.Definition.{Definition}
use Rattle.resolve.specs.Cells.{known_at, found_by, define_at}

module _ (m : Map) (w : List ℕ) (id k : ℕ) (e : k ≡ id) where
  -- ---- known
  pub known_none : m.count ≤ k → 0 ≡ known_at m w id
  unfolding known_at pick
  known_none h = cc (le-leb m.count k h)

  pub known_is : k < m.count → (c x : ℕ) → c ≡ cell_at w m.base k → x ≡ c → x ≡ known_at m w id
  unfolding known_at pick
  known_is h c x i j = cc (lt-leb m.count k h)

  -- ---- define
  pub define_is : k < m.count → (d : ℕ) (w' : List ℕ) → w' ≡ store w (m.base + 24 * k + 20) (le 4 d) → w' ≡ define_at m w id d
  unfolding define_at pick
  define_is h d w' i = cc (lt-leb m.count k h)

  pub define_none : m.count ≤ k → (d : ℕ) → w ≡ define_at m w id d
  unfolding define_at pick
  define_none h d = cc (le-leb m.count k h)

-- ---- definition
module _ (d : ℕ) where
  pub def_nothing : d ≡ 0 → None ≡ found_by d
  unfolding found_by pick
  def_nothing h = cc

  module _ (h : d ≡ 0 → ⊥) where
    pub def_terminal : d ≡ 1 → Some Definition.Terminal ≡ found_by d
    unfolding found_by pick
    def_terminal i = cc

    pub def_nonterminal : (d ≡ 1 → ⊥) → d < 512 → Some (Definition.Nonterminal (d - 2)) ≡ found_by d
    unfolding found_by pick
    def_nonterminal i j = cc (ne_eqb d 0 h, ne_eqb d 1 i, lt-leb 512 d j)

    pub def_argument : 512 ≤ d → Some (Definition.Argument (d - 512)) ≡ found_by d
    unfolding found_by pick
    def_argument j = cc (ne_eqb d 0 h, le-leb 512 d j)

-- theorem: what a cell has is never `Unknown`
pub found_known : (d : ℕ) → ¬ (found_by d ≡ Some Definition.Unknown)
unfolding found_by
found_known d =
    by_pick (λ (f : Option Definition). ¬ (f ≡ Some Definition.Unknown)) _ (λ h z. cc)
    (λ h. known (by_pick Known _ (λ i z. cc) (λ i. by_pick Known _ (λ j z. cc) (λ j z. cc))))
  where
    Known : Definition → Type 0
    Known x = ¬ (x ≡ Definition.Unknown)

    known : {x : Definition} → Known x → ¬ (Some x ≡ Some Definition.Unknown)
    known k z = k cc

pub ruleset celling = (rules, known_none, known_is, define_is, define_none, def_nothing, def_terminal, def_nonterminal, def_argument)

-- ---- what a definition leaves
pub length_define : (m : Map) (w : List ℕ) (k d : ℕ) → length (define_at m w k d) ≡ length w
unfolding define_at
length_define m w k d = by_pick (λ (v : List ℕ). length v ≡ length w) _ (λ h. refl) (λ h. length_store w (m.base + 24 * k + 20) (le 4 d))
