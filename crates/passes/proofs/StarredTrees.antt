-- The trees of the starred cases: the items that a call is put, and those that come of them.
use mathlib.Core.Bool.{Bool, true, false}
use mathlib.Core.List.{List, [], ◌∷◌, ◌++◌}
use mathlib.Core.Option.{none}
use Prim.Native.Nat.{ℕ, zero, suc}
use lib.ListN.{replicate}
use Rattle.parse_tree.specs.Plain.Tree.{Text, Around, Action, Sym, Attribute, Alternative, Item, ambiguous, bare, nonterminal, lookahead, lookbehind, repeat, star, macro, leaf, around, over, nil, user, lookahead_action, lookbehind_action, item, extern}
use Rattle.parse_tree.specs.declared.syntax.Span.{Span}
use Rattle.passes.specs.Macros.{vec_none, vec_one, pushed, v_name, e_name}
use Rattle.passes.proofs.Build.{at, name, to, quote, fall, list, level, side, alternative, nt}

-- ---- texts
abbrev pub e : Text
e = 69 ∷ []

abbrev pub e1 : Text
e1 = 69 ∷ 49 ∷ []

abbrev pub m : Text
m = 77 ∷ []

abbrev pub left_text : Text
left_text = 108 ∷ 101 ∷ 102 ∷ 116 ∷ []

abbrev pub right_text : Text
right_text = 114 ∷ 105 ∷ 103 ∷ 104 ∷ 116 ∷ []

abbrev pub none_text : Text
none_text = 110 ∷ 111 ∷ 110 ∷ 101 ∷ []

abbrev pub all_text : Text
all_text = 97 ∷ 108 ∷ 108 ∷ []

-- E is `"n"` at level 1, then an alternative at level 2
abbrev pub first : Alternative
first = alternative (at 1 2) (level (49 ∷ []) ∷ []) (quote 110 ∷ [])

abbrev pub leveled : List Attribute → List Sym → List Item
leveled as' xs = nt (at 0 9) e [] (first ∷ alternative (at 3 4) (level (50 ∷ []) ∷ as') xs ∷ []) ∷ []

abbrev pub plus : Text → List Item
plus s = leveled (side s ∷ []) (name e ∷ quote 43 ∷ name e ∷ [])

-- what comes of it: E1 with the first alternative, E with the second and the fall-through
abbrev pub lowest : Item
lowest = nt (at 0 9) e1 [] (alternative (at 1 2) [] (quote 110 ∷ []) ∷ [])

abbrev pub levels2 : List Sym → List Item
levels2 xs = lowest ∷ nt (at 0 9) e [] (alternative (at 3 4) [] xs ∷ alternative (at 0 9) [] (fall (at 0 9) e1 ∷ []) ∷ []) ∷ []

-- a macro M with one argument, for `M<E> E`
abbrev pub macro_m : Item
macro_m = nt (at 5 6) m ((80 ∷ []) ∷ []) (alternative (at 7 8) [] (name (80 ∷ []) ∷ []) ∷ [])

abbrev pub macro_m' : Item
macro_m' = nt (at 5 6) m ((80 ∷ []) ∷ []) (alternative (at 7 8) [] (to (80 ∷ []) ∷ []) ∷ [])

abbrev pub declared : Item
declared = nt (at 20 21) e1 [] (alternative (at 22 23) [] (quote 120 ∷ []) ∷ [])

-- the listing of document 01: pub L of `n*`, and extern n
abbrev pub n : Text
n = 110 ∷ []

abbrev pub list1 : List Sym → Alternative
list1 xs = alternative (at 4 6) [] xs

abbrev pub list_l : Sym → Item
list_l x = item (record { span = at 0 9; name = 76 ∷ []; inline = false; public = true; args = []; alternatives = list1 (x ∷ []) ∷ [] })

abbrev pub extern_n : Item
extern_n = Item.terminal (at 7 8) extern n

abbrev pub listing : List Item
listing = list_l (around (at 4 6) (repeat star) (leaf (at 4 5) (ambiguous n))) ∷ extern_n ∷ []

abbrev pub acting : Text → List Sym → Alternative
acting t xs = record { span = at 4 6; attributes = []; condition = none; action = user t; symbols = list xs }

abbrev pub new : Text → Bool → List Alternative → Item
new t b as' = item (record { span = at 4 6; name = t; inline = b; public = false; args = []; alternatives = as' })

abbrev pub n_star : Text
n_star = 110 ∷ 42 ∷ []

abbrev pub n_plus : Text
n_plus = 110 ∷ 43 ∷ []

abbrev pub bare_n : Sym
bare_n = leaf (at 4 5) (bare n)

abbrev pub v_plus : Sym
v_plus = around (at 4 6) (Around.name false v_name) (leaf (at 4 6) (nonterminal n_plus))

abbrev pub listed : List Item
listed =
    list_l (leaf (at 4 6) (nonterminal n_star))
    ∷ extern_n
    ∷ new n_star true (acting vec_none [] ∷ acting v_name (v_plus ∷ []) ∷ [])
    ∷ new n_plus false (acting vec_one (bare_n ∷ []) ∷ acting pushed (v_plus ∷ around (at 4 6) (Around.name false e_name) bare_n ∷ []) ∷ [])
    ∷ []

abbrev pub e2 : Text
e2 = 69 ∷ 50 ∷ []

-- S of `@L @R`
abbrev pub plain_s : List Sym → Item
plain_s xs = nt (at 1 2) (83 ∷ []) [] (alternative (at 3 4) [] xs ∷ [])

abbrev pub looks : List Item
looks = plain_s (leaf (at 5 6) lookahead ∷ leaf (at 7 8) lookbehind ∷ []) ∷ []

abbrev pub look : Span → Text → Action → Item
look s t a = item (record { span = s; name = t; inline = true; public = false; args = []; alternatives = record { span = s; attributes = []; condition = none; action = a; symbols = nil } ∷ [] })

abbrev pub at_l : Text
at_l = 64 ∷ 76 ∷ []

abbrev pub at_r : Text
at_r = 64 ∷ 82 ∷ []

abbrev pub looked : List Item
looked =
    plain_s (leaf (at 5 6) (nonterminal at_l) ∷ leaf (at 7 8) (nonterminal at_r) ∷ [])
    ∷ look (at 7 8) at_r lookbehind_action
    ∷ look (at 5 6) at_l lookahead_action
    ∷ []

-- S of `M<Q, "y">`, M<P, Q> of `P Q`, and a nonterminal Q
abbrev pub q : Text
q = 81 ∷ []

abbrev pub nonterminal_q : Item
nonterminal_q = nt (at 9 9) q [] (alternative (at 9 9) [] (quote 122 ∷ []) ∷ [])

abbrev pub swapping : List Item
swapping =
    plain_s (over (at 5 6) (macro m) (list (leaf (at 7 7) (ambiguous q) ∷ quote 121 ∷ [])) ∷ [])
    ∷ nt (at 8 8) m ((80 ∷ []) ∷ q ∷ []) (alternative (at 8 8) [] (name (80 ∷ []) ∷ name q ∷ []) ∷ [])
    ∷ nonterminal_q
    ∷ []

-- `M<Q, "y">`
abbrev pub key_m : Text
key_m = 77 ∷ 60 ∷ 81 ∷ 44 ∷ 32 ∷ 34 ∷ 121 ∷ 34 ∷ 62 ∷ []

abbrev pub swapped : List Item
swapped = plain_s (leaf (at 5 6) (nonterminal key_m) ∷ []) ∷ nonterminal_q ∷ nt (at 5 6) key_m [] (alternative (at 5 6) [] (to q ∷ quote 121 ∷ []) ∷ []) ∷ []

-- E of one alternative with one attribute, and what comes of it
abbrev pub single : Attribute → List Item
single a = nt (at 0 9) e [] (alternative (at 1 2) (a ∷ []) (quote 110 ∷ []) ∷ []) ∷ []

abbrev pub unlevelled : List Item
unlevelled = nt (at 0 9) e [] (alternative (at 1 2) [] (quote 110 ∷ []) ∷ []) ∷ []

abbrev pub star_n : Sym
star_n = around (at 7 8) (repeat star) (leaf (at 7 7) (ambiguous n))

-- n behind so many choices
abbrev pub deep : ℕ → Sym
deep zero = name n
deep (suc k) = around (at 7 8) Around.choose (deep k)

-- S of `X*` and S of `X+`, X being n behind 62 choices, and what comes of the second
abbrev pub deep_star : List Item
deep_star = plain_s (around (at 7 8) (repeat star) (deep 62) ∷ []) ∷ extern_n ∷ []

abbrev pub deep_plus : Text
deep_plus = replicate 62 60 ++ (110 ∷ (replicate 62 62 ++ (43 ∷ [])))

abbrev pub deep_bare : ℕ → Sym
deep_bare zero = leaf (at 0 0) (bare n)
deep_bare (suc k) = around (at 7 8) Around.choose (deep_bare k)

abbrev pub acted : Text → List Sym → Alternative
acted t xs = record { span = at 7 8; attributes = []; condition = none; action = user t; symbols = list xs }

abbrev pub deepened : List Item
deepened =
    plain_s (leaf (at 7 8) (nonterminal deep_plus) ∷ [])
    ∷ extern_n
    ∷ item (record {
      span = at 7 8;
      name = deep_plus;
      inline = false;
      public = false;
      args = [];
      alternatives = acted vec_one (deep_bare 62 ∷ []) ∷ acted pushed (around (at 7 8) (Around.name false v_name) (leaf (at 7 8) (nonterminal deep_plus)) ∷ around (at 7 8) (Around.name false e_name) (deep_bare 62) ∷ []) ∷ [];
    })
    ∷ []
