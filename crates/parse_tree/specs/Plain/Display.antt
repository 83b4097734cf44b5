-- Printed forms, as the Rust's `Display` has them. `shown x r` is the printed form of x with r behind it. Assumes nothing: these are definitions.
use Rattle.std.specs.Prelude.{ℕ, true, false, cond, ◌||◌, [], ◌∷◌, ◌++◌, eqb}
use Rattle.parse_tree.specs.Plain.Tree.{Text, Op, star, plus, question, Leaf, Around, Over, Sym, Syms, ambiguous, bare, quoted, regex, nonterminal, lookahead, lookbehind, error, repeat, choose, name, macro, group, leaf, around, over, nil, cons}

-- `"` and `\` escaped by `\`
unfoldable pub escaped : Text → Text → Text
escaped [] r = r
escaped (b ∷ bs) r = cond (eqb b 0x22 || eqb b 0x5c) (0x5c ∷ b ∷ escaped bs r) (b ∷ escaped bs r)

abbrev pub shown_op : Op → ℕ
shown_op star = 0x2a
shown_op plus = 0x2b
shown_op question = 0x3f

-- `"t"`, `r#"t"#`, `@L`, `@R`, `error`, and names as they are
unfoldable pub shown_leaf : Leaf → Text → Text
shown_leaf (ambiguous n) r = n ++ r
shown_leaf (bare n) r = n ++ r
shown_leaf (quoted t) r = 0x22 ∷ escaped t (0x22 ∷ r)
shown_leaf (regex t) r = 0x72 ∷ 0x23 ∷ 0x22 ∷ escaped t (0x22 ∷ 0x23 ∷ r)
shown_leaf (nonterminal n) r = n ++ r
shown_leaf lookahead r = 0x40 ∷ 0x4c ∷ r
shown_leaf lookbehind r = 0x40 ∷ 0x52 ∷ r
shown_leaf error r = 0x65 ∷ 0x72 ∷ 0x72 ∷ 0x6f ∷ 0x72 ∷ r

-- what stands before the symbol inside: `<`, `n:`, `mut n:`
unfoldable pub shown_before : Around → Text → Text
shown_before (repeat o) r = r
shown_before choose r = 0x3c ∷ r
shown_before (name true n) r = 0x6d ∷ 0x75 ∷ 0x74 ∷ 0x20 ∷ (n ++ (0x3a ∷ r))
shown_before (name false n) r = n ++ (0x3a ∷ r)

-- and behind it: `*`, `>`
unfoldable pub shown_behind : Around → Text → Text
shown_behind (repeat o) r = shown_op o ∷ r
shown_behind choose r = 0x3e ∷ r
shown_behind (name m n) r = r

-- `M<A, B>` and `(A B)`: what stands before, between and behind the symbols
unfoldable pub opening : Over → Text → Text
opening (macro n) r = n ++ (0x3c ∷ r)
opening group r = 0x28 ∷ r

abbrev pub separator : Over → Text
separator (macro n) = 0x2c ∷ 0x20 ∷ []
separator group = 0x20 ∷ []

abbrev pub closing : Over → ℕ
closing (macro n) = 0x3e
closing group = 0x29

unfoldable mutual
  pub shown : Sym → Text → Text
  shown (leaf s l) r = shown_leaf l r
  shown (around s a x) r = shown_before a (shown x (shown_behind a r))
  shown (over s o xs) r = opening o (shown_all xs (separator o) (closing o ∷ r))

  -- the symbols with the separator between them
  pub shown_all : Syms → Text → Text → Text
  shown_all nil sep r = r
  shown_all (cons x xs) sep r = shown x (shown_more xs sep r)

  pub shown_more : Syms → Text → Text → Text
  shown_more nil sep r = r
  shown_more (cons x xs) sep r = sep ++ shown x (shown_more xs sep r)

-- the printed form of a symbol
unfoldable pub print : Sym → Text
print x = shown x []
