-- The tree of a grammar, as the Rust's parse tree has it. Assumes nothing: these are definitions.
use Rattle.std.specs.Prelude.{ℕ, suc, Bool, List, [], ◌∷◌}
use Rattle.std.proofs.Math.Option.{Option, none, some}
use Rattle.parse_tree.specs.declared.syntax.Span.{Span}

-- a text is a list of bytes
abbrev pub Text : Type 0
Text = List ℕ

-- 26's op8: 0 `*`, 1 `+`, 2 `?`
pub data Op : Type 0 where
  star plus question : Op

-- a symbol with nothing inside: 20, 21, 22, 23, 24, 2a, 2b, 2c
pub data Leaf : Type 0 where
  ambiguous bare quoted regex nonterminal : Text → Leaf
  lookahead lookbehind error : Leaf

-- a symbol around one other: 26, 27, and 28, which says whether its name is `mut`
pub data Around : Type 0 where
  repeat : Op → Around
  choose : Around
  name : Bool → Text → Around

-- a symbol over a list: 25 over its arguments, 29 over its symbols
pub data Over : Type 0 where
  macro : Text → Over
  group : Over

mutual
  pub data Sym : Type 0 where
    leaf : Span → Leaf → Sym
    around : Span → Around → Sym → Sym
    over : Span → Over → Syms → Sym

  pub data Syms : Type 0 where
    nil : Syms
    cons : Sym → Syms → Syms

-- where a symbol stands in the grammar's text
abbrev pub sym_span : Sym → Span
sym_span (leaf s l) = s
sym_span (around s a x) = s
sym_span (over s o xs) = s

-- how many symbols
unfoldable pub count : Syms → ℕ
count nil = 0
count (cons x xs) = suc (count xs)

-- a list of symbols as the tree holds it
unfoldable pub syms_of : List Sym → Syms
syms_of [] = nil
syms_of (x ∷ xs) = cons x (syms_of xs)

-- 12's act8: 0 none, 1 User, 2 Fallible, 3 Lookahead, 4 Lookbehind
pub data Action : Type 0 where
  no_action : Action
  user fallible : Text → Action
  lookahead_action lookbehind_action : Action

-- 13; its argument is the key and the value that `get_arg_equal` answers
pub record Attribute : Type 0 where
  pub id : Text
  pub argument : Option (Text × Text)

-- 14
pub record Condition : Type 0 where
  pub span : Span
  pub lhs : Text
  pub equal : Bool
  pub rhs : Text

-- an alternative has at most one
abbrev pub conditions : Option Condition → List Condition
conditions none = []
conditions (some c) = c ∷ []

-- 12
pub record Alternative : Type 0 where
  pub span : Span
  pub attributes : List Attribute
  pub condition : Option Condition
  pub action : Action
  pub symbols : Syms

-- 10
pub record Nonterminal : Type 0 where
  pub span : Span
  pub name : Text
  pub inline : Bool
  pub public : Bool
  pub args : List Text
  pub alternatives : List Alternative

-- 30 an extern terminal, 31 a match terminal
pub data Source : Type 0 where
  extern match : Source

pub data Item : Type 0 where
  item : Nonterminal → Item
  terminal : Span → Source → Text → Item

-- a grammar with its atoms; what the passes call a stage
pub record Stage : Type 0 where
  pub atoms : List Text
  pub items : List Item
