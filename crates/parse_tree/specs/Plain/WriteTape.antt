-- From a tree to its tape, in the order of document 01. Assumes nothing: these are definitions.
use Rattle.std.specs.Prelude.{ℕ, ◌+◌, Bool, true, false, cond, List, [], ◌∷◌, ◌++◌, length}
use Rattle.std.proofs.Math.Option.{none, some}
use Rattle.octets.specs.Plain.Numbers.{le}
use Rattle.parse_tree.specs.Plain.Tree.{Text, Op, Leaf, Around, Over, Sym, Syms, Action, Attribute, Condition, Alternative, Item, Stage, star, plus, question, ambiguous, bare, quoted, regex, nonterminal, lookahead, lookbehind, error, repeat, choose, name, macro, group, leaf, around, over, nil, cons, no_action, user, fallible, lookahead_action, lookbehind_action, extern, match, item, terminal, count, conditions}
use Rattle.parse_tree.specs.Plain.Texts.{number}
use Rattle.parse_tree.specs.declared.syntax.Span.{Span}

-- the bytes of each element, one behind another
unfoldable pub bytes_of_each : {A : Type 0} → (A → List ℕ) → List A → List ℕ
bytes_of_each f [] = []
bytes_of_each f (x ∷ xs) = f x ++ bytes_of_each f xs

abbrev pub bit : Bool → ℕ
bit true = 1
bit false = 0

-- "op8 (0 `*`, 1 `+`, 2 `?`)"
abbrev pub op_code : Op → ℕ
op_code star = 0
op_code plus = 1
op_code question = 2

-- a code with `s e`, "two 32-bit numbers"
unfoldable pub coded : ℕ → Span → List ℕ
coded c s = c ∷ (le 4 s.0 ++ le 4 s.1)

-- w is the width of an atom's number in bytes, ts are the atoms
module _ (w : ℕ) (ts : List Text) where
  -- name16, text16, ..: the number of an atom
  unfoldable pub atom_tape : Text → List ℕ
  atom_tape x = le w (number ts x)

  -- "20 ambiguous name16; 21 bare terminal name16; 22 quoted text16; 23 regex text16; 24 nonterminal name16; .. 2a `@L`; 2b `@R`; 2c error"
  unfoldable pub leaf_tape : Span → Leaf → List ℕ
  leaf_tape s (ambiguous x) = coded 0x20 s ++ atom_tape x
  leaf_tape s (bare x) = coded 0x21 s ++ atom_tape x
  leaf_tape s (quoted x) = coded 0x22 s ++ atom_tape x
  leaf_tape s (regex x) = coded 0x23 s ++ atom_tape x
  leaf_tape s (nonterminal x) = coded 0x24 s ++ atom_tape x
  leaf_tape s lookahead = coded 0x2a s
  leaf_tape s lookbehind = coded 0x2b s
  leaf_tape s error = coded 0x2c s

  -- "26 repeat op8, one symbol; 27 choose, one symbol; 28 name mut8 (0 or 1) name16, one symbol"
  unfoldable pub around_tape : Span → Around → List ℕ
  around_tape s (repeat o) = coded 0x26 s ++ (op_code o ∷ [])
  around_tape s choose = coded 0x27 s
  around_tape s (name m x) = coded 0x28 s ++ (bit m ∷ atom_tape x)

  -- "25 macro name16 n8, arguments; .. 29 group n16, symbols"
  unfoldable pub over_tape : Span → Over → ℕ → List ℕ
  over_tape s (macro x) n = coded 0x25 s ++ (atom_tape x ++ (n ∷ []))
  over_tape s group n = coded 0x29 s ++ le 2 n

  unfoldable mutual
    pub sym_tape : Sym → List ℕ
    sym_tape (leaf s l) = leaf_tape s l
    sym_tape (around s a x) = around_tape s a ++ sym_tape x
    sym_tape (over s o xs) = over_tape s o (count xs) ++ syms_tape xs

    pub syms_tape : Syms → List ℕ
    syms_tape nil = []
    syms_tape (cons x xs) = sym_tape x ++ syms_tape xs

  -- "act8: 0 none, 1 User, 2 Fallible, 3 Lookahead, 4 Lookbehind; text16 is 0 for 0, 3, 4"
  unfoldable pub action_tape : Action → List ℕ
  action_tape no_action = 0 ∷ le w 0
  action_tape (user t) = 1 ∷ atom_tape t
  action_tape (fallible t) = 2 ∷ atom_tape t
  action_tape lookahead_action = 3 ∷ le w 0
  action_tape lookbehind_action = 4 ∷ le w 0

  -- "13 id16 kind8 key16 value16: kind 0 (key and value 0, no atoms)"
  unfoldable pub attribute_tape : Attribute → List ℕ
  attribute_tape a =
      0x13 ∷ (atom_tape a.id ++ (elim a.argument [ none ↦ 0 ∷ (le w 0 ++ le w 0) | some kv ↦ 1 ∷ (atom_tape kv.0 ++ atom_tape kv.1) ]))

  -- "14 `s e` lhs16 op8 rhs16: condition; 0 equals, 1 not equals"
  unfoldable pub condition_tape : Condition → List ℕ
  condition_tape c = coded 0x14 c.span ++ (atom_tape c.lhs ++ (cond c.equal 0 1 ∷ atom_tape c.rhs))

  -- "12 `s e` attrs8 cond8 act8 text16 syms16: alternative, then attributes, condition, symbols"
  unfoldable pub alternative_tape : Alternative → List ℕ
  alternative_tape a =
      (coded 0x12 a.span ++ (length a.attributes ∷ length (conditions a.condition) ∷ (action_tape a.action ++ le 2 (count a.symbols))))
      ++ (bytes_of_each attribute_tape a.attributes ++ (bytes_of_each condition_tape (conditions a.condition) ++ syms_tape a.symbols))

  -- "10 `s e` name16 flags8 args8 alts16: nonterminal (flags 1 inline, 2 pub, added together); then args, then alternatives. 11 name16: an argument"
  unfoldable pub item_tape : Item → List ℕ
  item_tape (item d) =
      (coded 0x10 d.span ++ (atom_tape d.name ++ ((bit d.inline + (bit d.public + bit d.public)) ∷ length d.args ∷ le 2 (length d.alternatives))))
      ++ (bytes_of_each (λ x. 0x11 ∷ atom_tape x) d.args ++ bytes_of_each alternative_tape d.alternatives)
  item_tape (terminal s extern x) = coded 0x30 s ++ atom_tape x
  item_tape (terminal s match x) = coded 0x31 s ++ atom_tape x

-- the tape of a stage whose atoms hold all its texts. "01 n16, n bytes: the next atom, numbered from 0. All atoms come first"
unfoldable pub tape_of : ℕ → Stage → List ℕ
tape_of w g = bytes_of_each (λ t. 0x01 ∷ (le 2 (length t) ++ t)) g.atoms ++ bytes_of_each (item_tape w g.atoms) g.items
