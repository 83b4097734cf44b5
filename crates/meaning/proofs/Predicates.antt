-- What the proofs carry along: identifiers, symbols whose names are looked up, and trees that passed questions 5 to 13. Assumes nothing.
use mathlib.Core.Path.{◌≡◌}
use mathlib.Core.Logic.{◌⊎◌, ◌≢◌}
use mathlib.Core.Bool.{Bool, true, false}
use mathlib.Core.List.{List, [], ◌∷◌, Memᴰ}
use mathlib.Core.Option.{none}
use Rattle.octets.specs.Plain.Runs.{same_as}
use Rattle.parse_tree.specs.Plain.Tree.{Text, Leaf, Around, Over, Sym, Syms, ambiguous, bare, quoted, regex, nonterminal, lookahead, lookbehind, error, repeat, choose, name, macro, group, leaf, around, over, nil, cons, Alternative, Nonterminal, item}
use Rattle.parse_tree.specs.Plain.Texts.{every, starts_name, in_name, mut_text, error_text, is_name, has}
use Rattle.passes.specs.Outcome.{Tree}
use Rattle.passes.specs.Grades.{annotated}
use Rattle.meaning.specs.Phrases.{Phrase, token, parameter, reference, call, repeated, sequence}
use Rattle.meaning.specs.Meaning.{is_terminal, named}
use Rattle.meaning.specs.Premises.{HasItem}

-- ---- the same with every name a name, as question 4 asks of a tape: what it comes to for a tree by itself
abbrev pub UnresolvedLeaf : Leaf → Type 0
UnresolvedLeaf (ambiguous n) = is_name n ≡ true
UnresolvedLeaf (bare n) = ⊥
UnresolvedLeaf (quoted t) = Unit {0}
UnresolvedLeaf (regex t) = Unit {0}
UnresolvedLeaf (nonterminal n) = ⊥
UnresolvedLeaf lookahead = Unit {0}
UnresolvedLeaf lookbehind = Unit {0}
UnresolvedLeaf error = Unit {0}

abbrev pub NamedAround : Around → Type 0
NamedAround (repeat o) = Unit {0}
NamedAround choose = Unit {0}
NamedAround (name m n) = is_name n ≡ true

abbrev pub NamedOver : Over → Type 0
NamedOver (macro n) = is_name n ≡ true
NamedOver group = Unit {0}

abbrev mutual
  pub UnresolvedSym : Sym → Type 0
  UnresolvedSym (leaf s l) = UnresolvedLeaf l
  UnresolvedSym (around s a x) = NamedAround a × UnresolvedSym x
  UnresolvedSym (over s o xs) = NamedOver o × UnresolvedSyms xs

  pub UnresolvedSyms : Syms → Type 0
  UnresolvedSyms nil = Unit {0}
  UnresolvedSyms (cons x xs) = UnresolvedSym x × UnresolvedSyms xs

pub record Unresolved (U : Tree) : Type 0 where
  pub symbols : (d : Nonterminal) → Memᴰ (item d) U → (a : Alternative) → Memᴰ a d.alternatives → UnresolvedSyms a.symbols
  pub names : (d : Nonterminal) → Memᴰ (item d) U → is_name d.name ≡ true
  pub terminals : (n : Text) → is_terminal U n ≡ true → is_name n ≡ true
  pub no_macro : (d : Nonterminal) → Memᴰ (item d) U → annotated d ≡ true → d.args ≡ []

abbrev pub starts_well : Text → Bool
starts_well [] = false
starts_well (b ∷ bs) = starts_name b

-- `is_name`, taken apart
pub record Ident (n : Text) : Type 0 where
  pub first : starts_well n ≡ true
  pub rest : every in_name n ≡ true
  pub no_mut : same_as n mut_text ≡ false
  pub no_error : same_as n error_text ≡ false

abbrev pub IdentAround : Around → Type 0
IdentAround (repeat o) = Unit {0}
IdentAround choose = Unit {0}
IdentAround (name m n) = Ident n

abbrev pub IdentOver : Over → Type 0
IdentOver (macro n) = Ident n
IdentOver group = Unit {0}

-- ---- symbols as a tree's own text can have them, with every name looked up and no argument left
module _ (G : Tree) where
  abbrev pub PureLeaf : Leaf → Type 0
  PureLeaf (ambiguous n) = ⊥
  PureLeaf (bare n) = Ident n × (is_terminal G n ≡ true)
  PureLeaf (quoted t) = Unit {0}
  PureLeaf (regex t) = Unit {0}
  PureLeaf (nonterminal n) = Ident n × (is_terminal G n ≡ false)
  PureLeaf lookahead = Unit {0}
  PureLeaf lookbehind = Unit {0}
  PureLeaf error = Unit {0}

  abbrev mutual
    pub Pure : Sym → Type 0
    Pure (leaf s l) = PureLeaf l
    Pure (around s a x) = IdentAround a × Pure x
    Pure (over s o xs) = IdentOver o × Pures xs

    pub Pures : Syms → Type 0
    Pures nil = Unit {0}
    Pures (cons x xs) = Pure x × Pures xs

-- ---- phrases that are no token
abbrev pub is_compound : Phrase → Bool
is_compound (token t) = false
is_compound (parameter n) = true
is_compound (reference n c) = true
is_compound (call n xs) = true
is_compound (repeated o m) = true
is_compound (sequence ms) = true

-- as many arguments as parameters
abbrev pub Arity : List Text → Syms → Type 0
Arity [] nil = Unit {0}
Arity [] (cons x xs) = ⊥
Arity (p ∷ ps) nil = ⊥
Arity (p ∷ ps) (cons x xs) = Arity ps xs

-- ---- a tree that has passed questions 5 to 13: each name of an item with arguments ps is looked up
module _ (G : Tree) (ps : List Text) where
  abbrev pub OkayLeaf : Leaf → Type 0
  OkayLeaf (ambiguous n) = ⊥
  OkayLeaf (bare n) = Ident n × (is_terminal G n ≡ true)
  OkayLeaf (quoted t) = Unit {0}
  OkayLeaf (regex t) = Unit {0}
  OkayLeaf (nonterminal n) = (has n ps ≡ true) ⊎ ((has n ps ≡ false) × Ident n × (is_terminal G n ≡ false) × HasItem G n)
  OkayLeaf lookahead = Unit {0}
  OkayLeaf lookbehind = Unit {0}
  OkayLeaf error = Unit {0}

  -- a macro of G with as many arguments
  abbrev pub OkayOver : Over → Syms → Type 0
  OkayOver (macro n) xs = (d : Nonterminal) × Memᴰ (item d) G × (d.name ≡ n) × (d.args ≢ []) × Arity d.args xs × Ident n
  OkayOver group xs = Unit {0}

  abbrev mutual
    pub Okay : Sym → Type 0
    Okay (leaf s l) = OkayLeaf l
    Okay (around s a x) = IdentAround a × Okay x
    Okay (over s o xs) = OkayOver o xs × Okays xs

    pub Okays : Syms → Type 0
    Okays nil = Unit {0}
    Okays (cons x xs) = Okay x × Okays xs

pub record Resolved (G : Tree) : Type 0 where
  pub symbols : (d : Nonterminal) → Memᴰ (item d) G → (a : Alternative) → Memᴰ a d.alternatives → Okays G d.args a.symbols
  pub distinct : (d e : Nonterminal) → Memᴰ (item d) G → Memᴰ (item e) G → d.name ≡ e.name → d ≡ e
  pub idents : (n : Text) → is_terminal G n ≡ true → Ident n
  pub names : (d : Nonterminal) → Memᴰ (item d) G → Ident d.name × (is_terminal G d.name ≡ false)

-- ---- a name that is an argument, and one that is a nonterminal
pub named-parameter : (G : Tree) (ps : List Text) (n : Text) → has n ps ≡ true → named G ps n ≡ parameter n
unfolding named
named-parameter G ps n e = rw e

pub named-reference : (G : Tree) (ps : List Text) (n : Text) → has n ps ≡ false → is_terminal G n ≡ false → named G ps n ≡ reference n none
unfolding named
named-reference G ps n e t = rw (e, t)
