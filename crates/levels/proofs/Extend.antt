-- What lies within some texts lies within more of them, and has the same bytes. Assumes nothing.
use mathlib.Core.Path.{◌≡◌, refl, ap}
use mathlib.Core.Bool.{Bool, true}
use mathlib.Core.List.{List, [], ◌∷◌}
use mathlib.Core.Option.{Option, none, some}
use Prim.Native.Nat.{ℕ, zero, suc}
use Rattle.parse_tree.specs.Plain.Tree.{Text, Leaf, Around, Over, Sym, Syms, Action, Attribute, Condition, Alternative, Nonterminal, Item, ambiguous, bare, quoted, regex, nonterminal, lookahead, lookbehind, error, repeat, choose, name, macro, group, leaf, around, over, nil, cons, no_action, user, fallible, lookahead_action, lookbehind_action, item, count, conditions}
use Rattle.parse_tree.specs.Plain.Texts.{is_name, is_literal, is_ascii, has}
use Rattle.parse_tree.specs.Plain.WriteTape.{bytes_of_each}
use Rattle.parse_tree.specs.Working.Nodes.{node_bytes}
use Rattle.parse_tree.specs.Working.Encode.{over_node, action_text, alternative_node, attribute_node, condition_node, nonterminal_node, sym_bytes, syms_bytes, argument_bytes, attribute_bytes, condition_bytes, alternative_bytes, item_bytes}
use Rattle.parse_tree.specs.Working.Within.{Each, Uses, LeafWithin, AroundWithin, OverWithin, SymWithin, SymsWithin, ActionWithin, ArgumentWithin, AttributeWithin, ConditionWithin, AlternativeWithin, NonterminalWithin, ItemWithin}
use Rattle.parse_tree.proofs.ReadingLaws.{each_map}
use Rattle.replacing.proofs.Growing.{Extends, extends_has, extends_number}
use Rattle.replacing.proofs.SymbolsGo.{leaf_later, around_later}

-- theorem: functions that agree on each element
pub bytes_each : {A : Type 0} (W : A → Type 0) (f g : A → List ℕ) → ((x : A) → W x → f x ≡ g x) → (xs : List A) → Each W xs → bytes_of_each f xs ≡ bytes_of_each g xs
unfolding bytes_of_each
bytes_each W f g h [] e = refl
bytes_each W f g h (x ∷ xs) e = rw (h x e.0, bytes_each W f g h xs e.1) refl

-- us begins with ts
module _ (four : Bool) (wd : ℕ) (ts us : List Text) (p : Extends ts us) where
  -- ---- bytes
  over_later : (o : Over) (n : ℕ) → OverWithin four wd ts o n → over_node us o n ≡ over_node ts o n
  unfolding over_node
  over_later (macro x) n u = rw (extends_number ts us x p u.0.0) refl
  over_later group n u = refl

  action_later : (a : Action) → ActionWithin four wd ts a → action_text us a ≡ action_text ts a
  unfolding action_text
  action_later no_action u = refl
  action_later (user t) u = extends_number ts us t p u.0
  action_later (fallible t) u = extends_number ts us t p u.0
  action_later lookahead_action u = refl
  action_later lookbehind_action u = refl

  attribute_later : (i : Text) (o : Option (Text × Text)) → has i ts ≡ true → ArgumentWithin four wd ts o → attribute_node us (record { id = i; argument = o }) ≡ attribute_node ts (record { id = i; argument = o })
  unfolding attribute_node
  attribute_later i none u v = rw (extends_number ts us i p u) refl
  attribute_later i (some kv) u v = rw (extends_number ts us i p u, extends_number ts us kv.0 p v.0.0, extends_number ts us kv.1 p v.1.0) refl

  mutual
    unfolding sym_bytes syms_bytes

    pub symbol_extend : (x : Sym) (left : ℕ) → SymWithin four wd ts x left → sym_bytes wd us x ≡ sym_bytes wd ts x
    symbol_extend (leaf s l) zero h = absurd h
    symbol_extend (leaf s l) (suc left) h = rw (leaf_later four wd ts us p l h.1) refl
    symbol_extend (around s a x) zero h = absurd h
    symbol_extend (around s a x) (suc left) h = rw (around_later four wd ts us p a h.1, symbol_extend x left h.2) refl
    symbol_extend (over s o xs) zero h = absurd h
    symbol_extend (over s o xs) (suc left) h = rw (over_later o (count xs) h.1, symbols_extend xs left h.2) refl

    pub symbols_extend : (xs : Syms) (left : ℕ) → SymsWithin four wd ts xs left → syms_bytes wd us xs ≡ syms_bytes wd ts xs
    symbols_extend nil left h = refl
    symbols_extend (cons x xs) left h = rw (symbol_extend x left h.0, symbols_extend xs left h.1) refl

  pub argument-extend : (x : Text) → Uses four wd ts is_name x → argument_bytes wd us x ≡ argument_bytes wd ts x
  unfolding argument_bytes
  argument-extend x u = rw (extends_number ts us x p u.0) refl

  pub attribute_extend : (a : Attribute) → AttributeWithin four wd ts a → attribute_bytes wd us a ≡ attribute_bytes wd ts a
  unfolding attribute_bytes
  attribute_extend a u = ap (node_bytes wd) (attribute_later a.id a.argument u.0.0 u.1)

  pub condition_extend : (c : Condition) → ConditionWithin four wd ts c → condition_bytes wd us c ≡ condition_bytes wd ts c
  unfolding condition_bytes condition_node
  condition_extend c u = rw (extends_number ts us c.lhs p u.lhs.0, extends_number ts us c.rhs p u.rhs.0) refl

  pub alternative_extend : (a : Alternative) → AlternativeWithin four wd ts a → alternative_bytes wd us a ≡ alternative_bytes wd ts a
  unfolding alternative_bytes alternative_node
  alternative_extend a h =
      rw (
        action_later a.action h.action,
        bytes_each (AttributeWithin four wd ts) (attribute_bytes wd us) (attribute_bytes wd ts) attribute_extend a.attributes h.attributes,
        bytes_each (ConditionWithin four wd ts) (condition_bytes wd us) (condition_bytes wd ts) condition_extend (conditions a.condition) h.condition,
        symbols_extend a.symbols 64 h.symbols,
      ) refl

  -- theorem: an item's bytes are by the numbers of the texts that it lies within
  pub bytes_extend : (x : Item) → ItemWithin four wd ts x → item_bytes wd us x ≡ item_bytes wd ts x
  unfolding item_bytes nonterminal_node
  bytes_extend (item d) h =
      rw (
        extends_number ts us d.name p h.name.0,
        bytes_each (Uses four wd ts is_name) (argument_bytes wd us) (argument_bytes wd ts) argument-extend d.args h.args,
        bytes_each (AlternativeWithin four wd ts) (alternative_bytes wd us) (alternative_bytes wd ts) alternative_extend d.alternatives h.alternatives,
      ) refl
  bytes_extend (Item.terminal s o x) h = rw (extends_number ts us x p h.1.0) refl

  -- ---- limits
  uses_extend : (class : Text → Bool) (x : Text) → Uses four wd ts class x → Uses four wd us class x
  uses_extend class x u = (extends_has ts us x p u.0, rw (extends_number ts us x p u.0) u.1, u.2)

  leaf_within : (l : Leaf) → LeafWithin four wd ts l → LeafWithin four wd us l
  leaf_within (ambiguous x) u = uses_extend is_name x u
  leaf_within (bare x) u = uses_extend is_name x u
  leaf_within (quoted x) u = uses_extend is_literal x u
  leaf_within (regex x) u = uses_extend is_literal x u
  leaf_within (nonterminal x) u = uses_extend is_name x u
  leaf_within lookahead u = tt
  leaf_within lookbehind u = tt
  leaf_within error u = tt

  around_within : (a : Around) → AroundWithin four wd ts a → AroundWithin four wd us a
  around_within (repeat o) u = tt
  around_within choose u = tt
  around_within (name m x) u = uses_extend is_name x u

  over_within : (o : Over) (n : ℕ) → OverWithin four wd ts o n → OverWithin four wd us o n
  over_within (macro x) n u = (uses_extend is_name x u.0, u.1, u.2)
  over_within group n u = u

  mutual
    pub symbol_within_extend : (x : Sym) (left : ℕ) → SymWithin four wd ts x left → SymWithin four wd us x left
    symbol_within_extend (leaf s l) zero h = absurd h
    symbol_within_extend (leaf s l) (suc left) h = (h.0, leaf_within l h.1)
    symbol_within_extend (around s a x) zero h = absurd h
    symbol_within_extend (around s a x) (suc left) h = (h.0, around_within a h.1, symbol_within_extend x left h.2)
    symbol_within_extend (over s o xs) zero h = absurd h
    symbol_within_extend (over s o xs) (suc left) h = (h.0, over_within o (count xs) h.1, symbols_within_extend xs left h.2)

    pub symbols_within_extend : (xs : Syms) (left : ℕ) → SymsWithin four wd ts xs left → SymsWithin four wd us xs left
    symbols_within_extend nil left h = tt
    symbols_within_extend (cons x xs) left h = (symbol_within_extend x left h.0, symbols_within_extend xs left h.1)

  action_within : (a : Action) → ActionWithin four wd ts a → ActionWithin four wd us a
  action_within no_action u = tt
  action_within (user t) u = uses_extend is_ascii t u
  action_within (fallible t) u = uses_extend is_ascii t u
  action_within lookahead_action u = tt
  action_within lookbehind_action u = tt

  argument-within : (o : Option (Text × Text)) → ArgumentWithin four wd ts o → ArgumentWithin four wd us o
  argument-within none u = tt
  argument-within (some kv) u = (uses_extend is_ascii kv.0 u.0, uses_extend is_ascii kv.1 u.1)

  condition_within : (c : Condition) → ConditionWithin four wd ts c → ConditionWithin four wd us c
  condition_within c h = record { span = h.span; lhs = uses_extend is_name c.lhs h.lhs; rhs = uses_extend is_literal c.rhs h.rhs }

  pub alternative_within_extend : (a : Alternative) → AlternativeWithin four wd ts a → AlternativeWithin four wd us a
  alternative_within_extend a h = record {
    span = h.span;
    few = h.few;
    attributes = each_map (λ (x : Attribute) u. (uses_extend is_name x.id u.0, argument-within x.argument u.1)) a.attributes h.attributes;
    condition = each_map condition_within (conditions a.condition) h.condition;
    action = action_within a.action h.action;
    fewer = h.fewer;
    symbols = symbols_within_extend a.symbols 64 h.symbols;
  }

  pub nonterminal_within_extend : (d : Nonterminal) → NonterminalWithin four wd ts d → NonterminalWithin four wd us d
  nonterminal_within_extend d h = record {
    span = h.span;
    name = uses_extend is_name d.name h.name;
    few = h.few;
    args = each_map (uses_extend is_name) d.args h.args;
    fewer = h.fewer;
    alternatives = each_map alternative_within_extend d.alternatives h.alternatives;
  }
