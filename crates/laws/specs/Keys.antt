-- The symbols that macro expansion replaces, and the names that stand in them. Assumes nothing: these are definitions.
use Rattle.std.specs.Prelude.{◌≡◌, true, false, List, [], ◌∷◌}
use Rattle.parse_tree.specs.Plain.Tree.{Text, Leaf, Around, Over, Sym, Syms, ambiguous, bare, quoted, regex, nonterminal, lookahead, lookbehind, error, repeat, choose, name, macro, group, leaf, around, over, nil, cons, Alternative, Item, item}
use Rattle.parse_tree.specs.Plain.Texts.{has, is_identifier}
use Rattle.parse_tree.specs.Working.Within.{Each}
use Rattle.passes.specs.Macros.{MacroExpander, vec_none, vec_one, pushed, some_text, none_text, one_chosen, all_chosen, v_name, e_name, symbol_of}

-- the nine texts of built-in items
unfoldable pub built_ins : List Text
built_ins = vec_none ∷ v_name ∷ vec_one ∷ pushed ∷ e_name ∷ some_text ∷ none_text ∷ one_chosen ∷ all_chosen ∷ []

-- a text that a symbol may have for its name: an identifier, or the printed form of a symbol that was replaced, is one
pub record SoundText (t : Text) : Type 0 where
  pub some : t ≡ [] → ⊥
  pub other : t ≡ one_chosen → ⊥

-- what is replaced: 25, 26, 29, 2a, 2b
abbrev pub LeafExpands : Leaf → Type 0
LeafExpands (ambiguous n) = ⊥
LeafExpands (bare n) = ⊥
LeafExpands (quoted t) = ⊥
LeafExpands (regex t) = ⊥
LeafExpands (nonterminal n) = ⊥
LeafExpands lookahead = Unit {0}
LeafExpands lookbehind = Unit {0}
LeafExpands error = ⊥

abbrev pub AroundExpands : Around → Type 0
AroundExpands (repeat o) = Unit {0}
AroundExpands choose = ⊥
AroundExpands (name m n) = ⊥

abbrev pub Expands : Sym → Type 0
Expands (leaf s l) = LeafExpands l
Expands (around s a x) = AroundExpands a
Expands (over s o xs) = Unit {0}

-- each name in a symbol: those of 20, 21 and 24 are sound, those of 25 and 28 are identifiers
abbrev pub LeafSound : Leaf → Type 0
LeafSound (ambiguous n) = SoundText n
LeafSound (bare n) = SoundText n
LeafSound (quoted t) = Unit {0}
LeafSound (regex t) = Unit {0}
LeafSound (nonterminal n) = SoundText n
LeafSound lookahead = Unit {0}
LeafSound lookbehind = Unit {0}
LeafSound error = Unit {0}

abbrev pub AroundSound : Around → Type 0
AroundSound (repeat o) = Unit {0}
AroundSound choose = Unit {0}
AroundSound (name m n) = is_identifier n ≡ true

abbrev pub OverSound : Over → Type 0
OverSound (macro n) = is_identifier n ≡ true
OverSound group = Unit {0}

abbrev mutual
  pub SymSound : Sym → Type 0
  SymSound (leaf s l) = LeafSound l
  SymSound (around s a x) = AroundSound a × SymSound x
  SymSound (over s o xs) = OverSound o × SymsSound xs

  pub SymsSound : Syms → Type 0
  SymsSound nil = Unit {0}
  SymsSound (cons x xs) = SymSound x × SymsSound xs

abbrev pub AlternativeSound : Alternative → Type 0
AlternativeSound a = SymsSound a.symbols

abbrev pub ItemSound : Item → Type 0
ItemSound (item d) = Each AlternativeSound d.alternatives
ItemSound (Item.terminal s o n) = Unit {0}

-- the expander: no key is a text of a built-in item, and what is on the pile is sound
pub record Piled (σ : MacroExpander) : Type 0 where
  pub keys : Each (λ (k : Text). has k built_ins ≡ false) σ.keys
  pub pile : Each (λ p. SymSound (symbol_of p)) σ.pile
