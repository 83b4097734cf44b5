-- Macro expansion in rounds, as the Rust does it: questions 17, 18 and 19. Assumes nothing: these are definitions.
use Rattle.std.specs.Prelude.{ℕ, suc, Bool, true, false, cond, not, ◌&&◌, ◌||◌, List, [], ◌∷◌, eqb}
use Rattle.std.proofs.Math.Option.{Option, none, some}
use Rattle.octets.specs.Plain.Runs.{same_as}
use Rattle.parse_tree.specs.Plain.Tree.{Text, Op, star, plus, question, Around, Over, Sym, Syms, nonterminal, lookahead, lookbehind, repeat, choose, name, macro, group, leaf, around, over, nil, cons, count, Action, user, lookahead_action, lookbehind_action, Condition, Alternative, Nonterminal, Item, item}
use Rattle.parse_tree.specs.Plain.Texts.{ascii, has}
use Rattle.parse_tree.specs.Plain.Display.{print}
use Rattle.parse_tree.specs.declared.syntax.Span.{Span}
use Rattle.passes.specs.Views.{Look, ahead, behind, as_nonterminal, as_quoted, as_look, as_leaf}
use Rattle.passes.specs.Outcome.{Tree, Outcome, yes, no, after, with_symbols, with_alternatives, simple}

-- ---- replacing symbols

-- what stands on the pile: a lookaround, a repeat, a macro call or a group
pub data Pending : Type 0 where
  looking : Span → Look → Pending
  repeating : Span → Op → Sym → Pending
  listing : Span → Over → Syms → Pending

-- the symbol that it was
abbrev pub symbol_of : Pending → Sym
symbol_of (looking s ahead) = leaf s lookahead
symbol_of (looking s behind) = leaf s lookbehind
symbol_of (repeating s o x) = around s (repeat o) x
symbol_of (listing s o xs) = over s o xs

abbrev pub span_of : Pending → Span
span_of (looking s k) = s
span_of (repeating s o x) = s
span_of (listing s o xs) = s

-- the expander: the keys of the symbols met so far, and the pile, its top first
pub record MacroExpander : Type 0 where
  pub keys : List Text
  pub pile : List Pending

-- a symbol to expand gives way to the nonterminal of its printed form, and is pushed when that is new
unfoldable pub push : Pending → MacroExpander → Sym × MacroExpander
push p σ = let key = print (symbol_of p) in (leaf (span_of p) (nonterminal key), cond (has key σ.keys) σ (record { keys = key ∷ σ.keys; pile = p ∷ σ.pile }))

abbrev pub replace_around : Span → Around → Sym × MacroExpander → Sym × MacroExpander
replace_around s (repeat o) q = push (repeating s o q.0) q.1
replace_around s choose q = (around s choose q.0, q.1)
replace_around s (name m n) q = (around s (name m n) q.0, q.1)

-- inner symbols first; of the leaves only `@L` and `@R` are expanded
unfoldable mutual
  pub replace_symbol : Sym → MacroExpander → Sym × MacroExpander
  replace_symbol (leaf s l) σ = elim (as_look l) [ none ↦ (leaf s l, σ) | some k ↦ push (looking s k) σ ]
  replace_symbol (around s a x) σ = replace_around s a (replace_symbol x σ)
  replace_symbol (over s o xs) σ = let q = replace_symbols xs σ in push (listing s o q.0) q.1

  pub replace_symbols : Syms → MacroExpander → Syms × MacroExpander
  replace_symbols nil σ = (nil, σ)
  replace_symbols (cons x xs) σ = let q = replace_symbol x σ in let r = replace_symbols xs q.1 in (cons q.0 r.0, r.1)

unfoldable pub replace_alternatives : List Alternative → MacroExpander → List Alternative × MacroExpander
replace_alternatives [] σ = ([], σ)
replace_alternatives (a ∷ rest) σ = let q = replace_symbols a.symbols σ in let r = replace_alternatives rest q.1 in (with_symbols a q.0 ∷ r.0, r.1)

unfoldable pub replace_items : List Item → MacroExpander → List Item × MacroExpander
replace_items [] σ = ([], σ)
replace_items (item d ∷ rest) σ = let q = replace_alternatives d.alternatives σ in let r = replace_items rest q.1 in (item (with_alternatives d q.0) ∷ r.0, r.1)
replace_items (Item.terminal s o t ∷ rest) σ = let r = replace_items rest σ in (Item.terminal s o t ∷ r.0, r.1)

-- ---- a macro's arguments put in, all together

-- a symbol at another span
abbrev pub at : Span → Sym → Sym
at s (leaf t l) = leaf s l
at s (around t a x) = around s a x
at s (over t o xs) = over s o xs

abbrev pub argument_of : List Text → Syms → Text → Option Sym
argument_of [] xs n = none
argument_of (p ∷ ps) nil n = none
argument_of (p ∷ ps) (cons x xs) n = cond (same_as n p) (some x) (argument_of ps xs n)

-- the symbol put in takes the parameter's span
abbrev pub or_name : Span → Text → Option Sym → Sym
or_name s n none = leaf s (nonterminal n)
or_name s n (some x) = at s x

module _ (ps : List Text) (args : Syms) where
  unfoldable mutual
    pub macro_expand_symbol : Sym → Sym
    macro_expand_symbol (leaf s l) = elim (as_nonterminal l) [ none ↦ leaf s l | some n ↦ or_name s n (argument_of ps args n) ]
    macro_expand_symbol (around s a x) = around s a (macro_expand_symbol x)
    macro_expand_symbol (over s o xs) = over s o (macro_expand_symbols xs)

    pub macro_expand_symbols : Syms → Syms
    macro_expand_symbols nil = nil
    macro_expand_symbols (cons x xs) = cons (macro_expand_symbol x) (macro_expand_symbols xs)

-- ---- the item of a symbol that was taken off the pile

-- "condition's argument a quoted literal? 17"
abbrev pub quoted_in : Option Sym → Option Text
quoted_in none = none
quoted_in (some x) = elim (as_leaf x) [ none ↦ none | some l ↦ as_quoted l ]

abbrev pub evaluate_cond : List Text → Syms → Option Condition → Outcome Bool
evaluate_cond ps xs none = yes true
evaluate_cond ps xs (some c) = elim (quoted_in (argument_of ps xs c.lhs)) [ none ↦ no 17 c.span | some t ↦ yes (cond c.equal (same_as t c.rhs) (not (same_as t c.rhs))) ]

-- an alternative of the macro takes the call's span and drops its condition
abbrev pub expand_alternative : Span → List Text → Syms → Alternative → Alternative
expand_alternative s ps xs a = record { span = s; attributes = a.attributes; condition = none; action = a.action; symbols = macro_expand_symbols ps xs a.symbols }

unfoldable pub expand_alternatives : Span → List Text → Syms → List Alternative → Outcome (List Alternative)
expand_alternatives s ps xs [] = yes []
expand_alternatives s ps xs (a ∷ rest) =
    after (evaluate_cond ps xs a.condition) (λ b. after (expand_alternatives s ps xs rest) (λ as'. yes (cond b (expand_alternative s ps xs a ∷ as') as')))

-- the macro of a name among the items
abbrev pub macro_in : Tree → Text → Option Nonterminal
macro_in [] n = none
macro_in (item d ∷ rest) n = cond (same_as d.name n && (elim d.args [ [] ↦ false | p ∷ ps ↦ true ])) (some d) (macro_in rest n)
macro_in (Item.terminal s o t ∷ rest) n = macro_in rest n

-- a resolved tree has the macro, so 11 is never answered here
abbrev pub expand_macro_symbol : Span → Text → Syms → Option Nonterminal → Outcome Nonterminal
expand_macro_symbol s key xs none = no 11 s
expand_macro_symbol s key xs (some d) =
    after (expand_alternatives s d.args xs d.alternatives)
    (λ as'. yes (record { span = s; name = key; inline = d.inline; public = d.public; args = []; alternatives = as' }))

abbrev pub made : Span → Text → Bool → List Alternative → Nonterminal
made s key inline as' = record { span = s; name = key; inline = inline; public = false; args = []; alternatives = as' }

-- "Built-in action texts are the Rust's, byte for byte"
abbrev pub vec_none : Text
vec_none = ascii "alloc::vec![]"

abbrev pub vec_one : Text
vec_one = ascii "alloc::vec![<>]"

abbrev pub pushed : Text
pushed = ascii "{ let mut v = v; v.push(e); v }"

abbrev pub some_text : Text
some_text = ascii "Some(<>)"

abbrev pub none_text : Text
none_text = ascii "None"

abbrev pub one_chosen : Text
one_chosen = ascii "<>"

abbrev pub all_chosen : Text
all_chosen = ascii "(<>)"

abbrev pub v_name : Text
v_name = ascii "v"

abbrev pub e_name : Text
e_name = ascii "e"

-- ---- groups: "Group without a direct name symbol? 19"
abbrev pub is_named : Sym → Bool
is_named (leaf s l) = false
is_named (around s (repeat o) x) = false
is_named (around s choose x) = false
is_named (around s (name m n) x) = true
is_named (over s o xs) = false

abbrev pub is_chosen : Sym → Bool
is_chosen (leaf s l) = false
is_chosen (around s (repeat o) x) = false
is_chosen (around s choose x) = true
is_chosen (around s (name m n) x) = false
is_chosen (over s o xs) = false

abbrev pub has_name : Syms → Bool
has_name nil = false
has_name (cons x xs) = is_named x || has_name xs

abbrev pub chosen : Syms → ℕ
chosen nil = 0
chosen (cons x xs) = cond (is_chosen x) (suc (chosen xs)) (chosen xs)

-- `analyze_expr`: the chosen symbols, or all where none is chosen; one of them is `<>`, else `(<>)`
abbrev pub group_action : Syms → Action
group_action xs = cond (eqb (cond (eqb (chosen xs) 0) (count xs) (chosen xs)) 1) (user one_chosen) (user all_chosen)

abbrev pub expand_expr_symbol : Span → Text → Syms → Outcome Nonterminal
expand_expr_symbol s key xs = cond (has_name xs) (no 19 s) (yes (made s key true (simple s (group_action xs) xs ∷ [])))

-- ---- repeats
abbrev pub expand_repeat_symbol : Span → Text → Op → Sym → Nonterminal
expand_repeat_symbol s key star x =
    made s key true (simple s (user vec_none) nil ∷ simple s (user v_name) (cons (around s (name false v_name) (around s (repeat plus) x)) nil) ∷ [])
expand_repeat_symbol s key plus x =
    made s key false (simple s (user vec_one) (cons x nil) ∷ simple s (user pushed) (cons (around s (name false v_name) (leaf s (nonterminal key))) (cons (around s (name false e_name) x) nil)) ∷ [])
expand_repeat_symbol s key question x =
    made s key true (simple s (user some_text) (cons x nil) ∷ simple s (user none_text) nil ∷ [])

abbrev pub expand_lookaround_symbol : Span → Text → Look → Nonterminal
expand_lookaround_symbol s key ahead = made s key true (simple s lookahead_action nil ∷ [])
expand_lookaround_symbol s key behind = made s key true (simple s lookbehind_action nil ∷ [])

abbrev pub expand_over : Tree → Span → Text → Over → Syms → Outcome Nonterminal
expand_over G s key (macro n) xs = expand_macro_symbol s key xs (macro_in G n)
expand_over G s key group xs = expand_expr_symbol s key xs

unfoldable pub expand_symbol : Tree → Pending → Outcome Nonterminal
expand_symbol G (looking s k) = yes (expand_lookaround_symbol s (print (symbol_of (looking s k))) k)
expand_symbol G (repeating s o x) = yes (expand_repeat_symbol s (print (symbol_of (repeating s o x))) o x)
expand_symbol G (listing s o xs) = expand_over G s (print (symbol_of (listing s o xs))) o xs

-- "New items are appended in the order they leave the pile, last in first out"
unfoldable pub drain : Tree → List Pending → Outcome (List Item)
drain G [] = yes []
drain G (x ∷ xs) = after (expand_symbol G x) (λ d. after (drain G xs) (λ ds. yes (item d ∷ ds)))

-- "macro definitions gone"
abbrev pub without_macros : Tree → Tree
without_macros [] = []
without_macros (item d ∷ rest) = elim d.args [ [] ↦ item d ∷ without_macros rest | p ∷ ps ↦ without_macros rest ]
without_macros (Item.terminal s o t ∷ rest) = Item.terminal s o t ∷ without_macros rest
