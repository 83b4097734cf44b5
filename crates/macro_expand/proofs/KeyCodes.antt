-- A symbol that is expanded, told by the code of its command. Assumes nothing.
use mathlib.Core.Path.{◌≡◌, refl}
use mathlib.Core.List.{List}
use Prim.Native.Nat.{ℕ}
use native.Mathlib.Omega.{arith}
use lib.ListN.{get_or}
use Rattle.octets.specs.Plain.Runs.{Lies}
use Rattle.octets.proofs.LiesLaws.{lies_first}
use Rattle.parse_tree.specs.Plain.Tree.{Text, Leaf, Over, Sym, ambiguous, bare, quoted, regex, nonterminal, lookahead, lookbehind, error, repeat, choose, name, macro, group, leaf, around, over}
use Rattle.parse_tree.specs.Working.Nodes.{node_bytes, symbol_bytes, leaf_code}
use Rattle.parse_tree.specs.Working.Encode.{sym_bytes, leaf_node, around_node, over_node}
use Rattle.passes.specs.Views.{ahead, behind}
use Rattle.laws.specs.Keys.{Expands}
use Rattle.macro_expand.specs.Expand.{IsLook, IsRepeat, IsGroup, IsMacro}

-- the code of a symbol that is expanded
abbrev leaf_key : Leaf → ℕ
leaf_key (ambiguous n) = 0
leaf_key (bare n) = 0
leaf_key (quoted t) = 0
leaf_key (regex t) = 0
leaf_key (nonterminal n) = 0
leaf_key lookahead = 42
leaf_key lookbehind = 43
leaf_key error = 0

abbrev over_key : Over → ℕ
over_key (macro m) = 37
over_key group = 41

abbrev pub key_code : Sym → ℕ
key_code (leaf s l) = leaf_key l
key_code (around s a x) = 38
key_code (over s o xs) = over_key o

-- theorem: it stands there
module _ (wd : ℕ) (ts : List Text) (w : List ℕ) (at e : ℕ) where
  pub key_code_lem : (y : Sym) → Expands y → Lies w at (sym_bytes wd ts y) e → get_or w at 0 ≡ key_code y
  unfolding sym_bytes node_bytes symbol_bytes leaf_code leaf_node around_node over_node
  key_code_lem (leaf s (ambiguous n)) h l = absurd h
  key_code_lem (leaf s (bare n)) h l = absurd h
  key_code_lem (leaf s (quoted t)) h l = absurd h
  key_code_lem (leaf s (regex t)) h l = absurd h
  key_code_lem (leaf s (nonterminal n)) h l = absurd h
  key_code_lem (leaf s lookahead) h l = (lies_first w at 42 _ e l).1
  key_code_lem (leaf s lookbehind) h l = (lies_first w at 43 _ e l).1
  key_code_lem (leaf s error) h l = absurd h
  key_code_lem (around s (repeat o) x) h l = (lies_first w at 38 _ e l).1
  key_code_lem (around s choose x) h l = absurd h
  key_code_lem (around s (name m n) x) h l = absurd h
  key_code_lem (over s (macro m) xs) h l = (lies_first w at 37 _ e l).1
  key_code_lem (over s group xs) h l = (lies_first w at 41 _ e l).1

-- ---- which it is
pub macro_there : (y : Sym) → Expands y → key_code y ≡ 37 → IsMacro y
macro_there (leaf s lookahead) h e = absurd (omega (arith, e))
macro_there (leaf s lookbehind) h e = absurd (omega (arith, e))
macro_there (around s (repeat o) x) h e = absurd (omega (arith, e))
macro_there (over s (macro m) xs) h e = (s, m, xs, refl)
macro_there (over s group xs) h e = absurd (omega (arith, e))
macro_there (leaf s (ambiguous _)) h e = elim h [ ]
macro_there (leaf s (bare _)) h e = elim h [ ]
macro_there (leaf s (quoted _)) h e = elim h [ ]
macro_there (leaf s (regex _)) h e = elim h [ ]
macro_there (leaf s (nonterminal _)) h e = elim h [ ]
macro_there (leaf s error) h e = elim h [ ]
macro_there (around s choose x) h e = elim h [ ]
macro_there (around s (name _ _) x) h e = elim h [ ]

pub repeat_there : (y : Sym) → Expands y → key_code y ≡ 38 → IsRepeat y
repeat_there (leaf s lookahead) h e = absurd (omega (arith, e))
repeat_there (leaf s lookbehind) h e = absurd (omega (arith, e))
repeat_there (around s (repeat o) x) h e = (s, o, x, refl)
repeat_there (over s (macro m) xs) h e = absurd (omega (arith, e))
repeat_there (over s group xs) h e = absurd (omega (arith, e))
repeat_there (leaf s (ambiguous _)) h e = elim h [ ]
repeat_there (leaf s (bare _)) h e = elim h [ ]
repeat_there (leaf s (quoted _)) h e = elim h [ ]
repeat_there (leaf s (regex _)) h e = elim h [ ]
repeat_there (leaf s (nonterminal _)) h e = elim h [ ]
repeat_there (leaf s error) h e = elim h [ ]
repeat_there (around s choose x) h e = elim h [ ]
repeat_there (around s (name _ _) x) h e = elim h [ ]

pub group_there : (y : Sym) → Expands y → key_code y ≡ 41 → IsGroup y
group_there (leaf s lookahead) h e = absurd (omega (arith, e))
group_there (leaf s lookbehind) h e = absurd (omega (arith, e))
group_there (around s (repeat o) x) h e = absurd (omega (arith, e))
group_there (over s (macro m) xs) h e = absurd (omega (arith, e))
group_there (over s group xs) h e = (s, xs, refl)
group_there (leaf s (ambiguous _)) h e = elim h [ ]
group_there (leaf s (bare _)) h e = elim h [ ]
group_there (leaf s (quoted _)) h e = elim h [ ]
group_there (leaf s (regex _)) h e = elim h [ ]
group_there (leaf s (nonterminal _)) h e = elim h [ ]
group_there (leaf s error) h e = elim h [ ]
group_there (around s choose x) h e = elim h [ ]
group_there (around s (name _ _) x) h e = elim h [ ]

pub look_there : (y : Sym) → Expands y → (key_code y ≡ 37 → ⊥) → (key_code y ≡ 38 → ⊥) → (key_code y ≡ 41 → ⊥) → IsLook y
look_there (leaf s lookahead) h a b c = (s, ahead, refl)
look_there (leaf s lookbehind) h a b c = (s, behind, refl)
look_there (around s (repeat o) x) h a b c = absurd (b refl)
look_there (over s (macro m) xs) h a b c = absurd (a refl)
look_there (over s group xs) h a b c = absurd (c refl)
look_there (leaf s (ambiguous _)) h a b c = elim h [ ]
look_there (leaf s (bare _)) h a b c = elim h [ ]
look_there (leaf s (quoted _)) h a b c = elim h [ ]
look_there (leaf s (regex _)) h a b c = elim h [ ]
look_there (leaf s (nonterminal _)) h a b c = elim h [ ]
look_there (leaf s error) h a b c = elim h [ ]
look_there (around s choose x) h a b c = elim h [ ]
look_there (around s (name _ _) x) h a b c = elim h [ ]
