-- The stages that a tape can hold: every operand within its limits. Assumes nothing: these are definitions.
use Rattle.std.specs.Prelude.{◌≡◌, ℕ, zero, suc, ◌^◌, ◌<◌, ◌≤◌, Bool, true, List, [], ◌∷◌, length}
use Rattle.std.proofs.Math.Option.{Option, none, some}
use Rattle.octets.specs.Working.Choice.{pick}
use Rattle.parse_tree.specs.Plain.Tree.{Text, Leaf, Around, Over, Sym, Syms, Action, Attribute, Condition, Alternative, Nonterminal, Item, Stage, ambiguous, bare, quoted, regex, nonterminal, lookahead, lookbehind, error, repeat, choose, name, macro, group, leaf, around, over, nil, cons, no_action, user, fallible, lookahead_action, lookbehind_action, item, terminal, count, conditions}
use Rattle.parse_tree.specs.Plain.Texts.{is_name, is_literal, is_ascii, has, number, distinct}
use Rattle.parse_tree.specs.declared.syntax.Span.{Span}

-- what holds of each element
abbrev pub Each : {A : Type 0} → (A → Type 0) → List A → Type 0
Each P [] = Unit {0}
Each P (x ∷ xs) = P x × Each P xs

-- two 32-bit numbers
abbrev pub SpanWithin : Span → Type 0
SpanWithin s = (s.0 < 2 ^ 32) × (s.1 < 2 ^ 32)

-- the atoms ts, whose numbers have w bytes; four says whether texts must suit their use
module _ (four : Bool) (w : ℕ) (ts : List Text) where
  -- a text that is an atom with a number of w bytes, and of the class that its use asks
  abbrev pub Uses : (Text → Bool) → Text → Type 0
  Uses class x = (has x ts ≡ true) × (number ts x < 256 ^ w) × (pick four (class x) true ≡ true)

  abbrev pub LeafWithin : Leaf → Type 0
  LeafWithin (ambiguous x) = Uses is_name x
  LeafWithin (bare x) = Uses is_name x
  LeafWithin (quoted x) = Uses is_literal x
  LeafWithin (regex x) = Uses is_literal x
  LeafWithin (nonterminal x) = Uses is_name x
  LeafWithin lookahead = Unit {0}
  LeafWithin lookbehind = Unit {0}
  LeafWithin error = Unit {0}

  abbrev pub AroundWithin : Around → Type 0
  AroundWithin (repeat o) = Unit {0}
  AroundWithin choose = Unit {0}
  AroundWithin (name m x) = Uses is_name x

  -- "25 macro name16 n8 (at least 1)"; "29 group n16"
  abbrev pub OverWithin : Over → ℕ → Type 0
  OverWithin (macro x) n = Uses is_name x × (1 ≤ n) × (n < 256)
  OverWithin group n = n < 65536

  -- "Symbols nest at most 64 deep": `left` levels are left
  abbrev mutual
    pub SymWithin : Sym → ℕ → Type 0
    SymWithin (leaf s l) zero = ⊥
    SymWithin (leaf s l) (suc left) = SpanWithin s × LeafWithin l
    SymWithin (around s a x) zero = ⊥
    SymWithin (around s a x) (suc left) = SpanWithin s × AroundWithin a × SymWithin x left
    SymWithin (over s o xs) zero = ⊥
    SymWithin (over s o xs) (suc left) = SpanWithin s × OverWithin o (count xs) × SymsWithin xs left

    pub SymsWithin : Syms → ℕ → Type 0
    SymsWithin nil left = Unit {0}
    SymsWithin (cons x xs) left = SymWithin x left × SymsWithin xs left

  abbrev pub ActionWithin : Action → Type 0
  ActionWithin no_action = Unit {0}
  ActionWithin (user t) = Uses is_ascii t
  ActionWithin (fallible t) = Uses is_ascii t
  ActionWithin lookahead_action = Unit {0}
  ActionWithin lookbehind_action = Unit {0}

  abbrev pub ArgumentWithin : Option (Text × Text) → Type 0
  ArgumentWithin none = Unit {0}
  ArgumentWithin (some kv) = Uses is_ascii kv.0 × Uses is_ascii kv.1

  abbrev pub AttributeWithin : Attribute → Type 0
  AttributeWithin a = Uses is_name a.id × ArgumentWithin a.argument

  pub record ConditionWithin (c : Condition) : Type 0 where
    pub span : SpanWithin c.span
    pub lhs : Uses is_name c.lhs
    pub rhs : Uses is_literal c.rhs

  pub record AlternativeWithin (a : Alternative) : Type 0 where
    pub span : SpanWithin a.span
    pub few : length a.attributes < 256
    pub attributes : Each AttributeWithin a.attributes
    pub condition : Each ConditionWithin (conditions a.condition)
    pub action : ActionWithin a.action
    pub fewer : count a.symbols < 65536
    pub symbols : SymsWithin a.symbols 64

  pub record NonterminalWithin (d : Nonterminal) : Type 0 where
    pub span : SpanWithin d.span
    pub name : Uses is_name d.name
    pub few : length d.args < 256
    pub args : Each (Uses is_name) d.args
    pub fewer : length d.alternatives < 65536
    pub alternatives : Each AlternativeWithin d.alternatives

  abbrev pub ItemWithin : Item → Type 0
  ItemWithin (item d) = NonterminalWithin d
  ItemWithin (terminal s o x) = SpanWithin s × Uses is_name x

-- "All atoms come first, no two equal": each has at most 65,535 bytes
pub record StageWithin (four : Bool) (w : ℕ) (g : Stage) : Type 0 where
  pub apart : distinct g.atoms ≡ true
  pub short : Each (λ (t : Text). length t < 65536) g.atoms
  pub items : Each (ItemWithin four w g.atoms) g.items
