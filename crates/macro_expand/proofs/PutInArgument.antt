-- Laws of `put_argument`: how deep the symbol for a parameter is nested, and which way it is appended. Assumes nothing.
use mathlib.Core.Path.{◌≡◌, refl, sym, ap, ◌∙◌, subst}
use mathlib.Core.Bool.{Bool, true, false, ◌&&◌, ◌||◌, not}
use mathlib.Core.List.{List}
use Prim.Native.Nat.{ℕ, zero, suc, ◌+◌, ◌-◌, ◌≤◌, ◌<◌}
use native.Mathlib.Omega.{arith}
use borrow.Author.Rules.{rules}
use borrow.Author.Tests.{lt-leb}
use lib.Dec.{leb}
use lib.ListN.{length, get_or}
use Rattle.octets.specs.Working.Choice.{pick}
use Rattle.octets.specs.Plain.Runs.{Lies}
use Rattle.octets.proofs.LiesLaws.{lies_first, lies_split}
use Rattle.parse_tree.specs.Plain.Tree.{Text, Leaf, Around, Sym, ambiguous, bare, quoted, regex, nonterminal, lookahead, lookbehind, error, repeat, choose, name, macro, group, leaf, around, over, nil}
use Rattle.parse_tree.specs.Working.Nodes.{node_bytes, symbol_bytes, leaf_code, long_of}
use Rattle.parse_tree.specs.Working.Encode.{leaf_node, around_node, over_node, syms_bytes}
use Rattle.parse_tree.specs.declared.syntax.Span.{Span}
use Rattle.texts.specs.declared.Map.{Map}
use Rattle.texts.specs.Table.{texts}
use Rattle.passes.specs.Sizes.{sym_fits}
use Rattle.passes.specs.Macros.{at}
use Rattle.laws.specs.Flat.{sym_node, children}
use Rattle.laws.proofs.Flat.{sym_bytes_lem, node_size}
use Rattle.display.specs.Standing.{SymStands}
use Rattle.display.proofs.StandsLaws.{standing, first_stands, none_stand}
use Rattle.replacing.specs.Trees.{renamed_leaf, renamed, is_key}
use Rattle.expander.specs.declared.Ground.{Ground}
use Rattle.expander.specs.Ground.{size_in}
use Rattle.expander.specs.Replace.{expanded_code}
use Rattle.expander.proofs.KeysLaws.{sym_length, stands_code}
use Rattle.appending.specs.declared.Appended.{Appended}
use Rattle.appending.specs.Symbols.{Nameable, PutsNamed}
use Rattle.appending.specs.Pieces.{nested, then_piece, Appends}
use Rattle.appending.proofs.PiecesLaws.{steady_nested, appends_then, appends_is, appends_nested}
use Rattle.macro_expand.specs.PutIn.{symbol_piece, sym_piece, Argument, SomeArgument, AnyArgument, PutsOne, PutsArgument, wrapping, fits_at}
use Rattle.macro_expand.proofs.PutInNamed.{argument-stands, named-from, named_some, named_put}

-- ---- how deep
none_fit : (y : Sym) → sym_fits y zero ≡ false
none_fit (leaf s l) = refl
none_fit (around s a x) = refl
none_fit (over s o xs) = refl

leaf_fits : (s : Span) (l : Leaf) (left : ℕ) → sym_fits (renamed_leaf s l) (suc left) ≡ true
leaf_fits s (ambiguous x) left = refl
leaf_fits s (bare x) left = refl
leaf_fits s (quoted x) left = refl
leaf_fits s (regex x) left = refl
leaf_fits s (nonterminal x) left = refl
leaf_fits s lookahead left = refl
leaf_fits s lookbehind left = refl
leaf_fits s error left = refl

-- at another span as well
pub at-fits : (sp : Span) (y : Sym) (left : ℕ) → sym_fits (at sp y) left ≡ sym_fits y left
at-fits sp (leaf s l) zero = refl
at-fits sp (leaf s l) (suc left) = refl
at-fits sp (around s a x) zero = refl
at-fits sp (around s a x) (suc left) = refl
at-fits sp (over s o xs) zero = refl
at-fits sp (over s o xs) (suc left) = refl

abbrev is_wrap : Sym → Bool
is_wrap (leaf s l) = false
is_wrap (around s (repeat o) x) = false
is_wrap (around s choose x) = true
is_wrap (around s (name m y) x) = true
is_wrap (over s o xs) = false

code_wraps : (wd : ℕ) (ts : List Text) (w : List ℕ) (a d : ℕ) (y : Sym) → Lies w a (node_bytes wd (sym_node ts y)) d → wrapping (get_or w a 0) ≡ is_wrap y
unfolding sym_node leaf_node around_node over_node node_bytes symbol_bytes leaf_code wrapping pick
code_wraps wd ts w a d (leaf s (ambiguous x)) l = ap wrapping (lies_first w a 32 _ d l).1
code_wraps wd ts w a d (leaf s (bare x)) l = ap wrapping (lies_first w a 33 _ d l).1
code_wraps wd ts w a d (leaf s (quoted x)) l = ap wrapping (lies_first w a 34 _ d l).1
code_wraps wd ts w a d (leaf s (regex x)) l = ap wrapping (lies_first w a 35 _ d l).1
code_wraps wd ts w a d (leaf s (nonterminal x)) l = ap wrapping (lies_first w a 36 _ d l).1
code_wraps wd ts w a d (leaf s lookahead) l = ap wrapping (lies_first w a 42 _ d l).1
code_wraps wd ts w a d (leaf s lookbehind) l = ap wrapping (lies_first w a 43 _ d l).1
code_wraps wd ts w a d (leaf s error) l = ap wrapping (lies_first w a 44 _ d l).1
code_wraps wd ts w a d (around s (repeat o) x) l = ap wrapping (lies_first w a 38 _ d l).1
code_wraps wd ts w a d (around s choose x) l = ap wrapping (lies_first w a 39 _ d l).1
code_wraps wd ts w a d (around s (name m n) x) l = ap wrapping (lies_first w a 40 _ d l).1
code_wraps wd ts w a d (over s (macro n) xs) l = ap wrapping (lies_first w a 37 _ d l).1
code_wraps wd ts w a d (over s group xs) l = ap wrapping (lies_first w a 41 _ d l).1

module _ (s w : List ℕ) (m : Map) (wd : ℕ) (four : Bool) (e : ℕ) where
  abbrev ts : List Text
  ts = texts s w m

  wraps_is : (l p d : ℕ) (x : Sym) → SymStands s w m wd four l p d x → wrapping (get_or w p 0) ≡ is_wrap x
  wraps_is l p d x h =
      let z = subst (λ (b : List ℕ). Lies w p b d) (sym_bytes_lem wd ts x) h.lies in
      code_wraps wd ts w p _ x (lies_split w p d (node_bytes wd (sym_node ts x)) (syms_bytes wd ts (children x)) z).0

  here : (l p d : ℕ) (x : Sym) → SymStands s w m wd four l p d x → d ≤ e → leb e p ≡ false
  here l p d x h i = lt-leb e p (omega (arith, h.lies.end, sym_length wd ts x, node_size wd ts x))

  still : (l p d : ℕ) (x : Sym) (left : ℕ) → SymStands s w m wd four l p d x → d ≤ e → is_wrap x ≡ false → true ≡ fits_at wd e w (suc left) p
  unfolding fits_at pick
  still l p d x left h i k = cc (here l p d x h i, wraps_is l p d x h)

  deeper : (l p d : ℕ) (x : Sym) (left : ℕ) → SymStands s w m wd four l p d x → d ≤ e → is_wrap x ≡ true → fits_at wd e w left (p + long_of wd (get_or w p 0)) ≡ fits_at wd e w (suc left) p
  unfolding fits_at pick
  deeper l p d x left h i k = cc (here l p d x h i, wraps_is l p d x h)

  inside : (l p d : ℕ) (sp : Span) (a : Around) (x : Sym) → SymStands s w m wd four l p d (around sp a x) → SymStands s w m wd four (l - 1) (p + long_of wd (get_or w p 0)) d x
  unfolding children
  inside l p d sp a x h =
      let f = first_stands s w m wd four (l - 1) _ d x nil (standing s w m wd four l p d (around sp a x) h).inside in
      let z = none_stand s w m wd four (l - 1) _ d f.1 in
      subst (λ (j : ℕ). SymStands s w m wd four (l - 1) (p + long_of wd (get_or w p 0)) j x) z f.0

  -- theorem: what is read there
  pub fits_means : (x : Sym) (l p d left : ℕ) → SymStands s w m wd four l p d x → d ≤ e → fits_at wd e w left p ≡ sym_fits (renamed x) left
  unfolding renamed fits_at
  fits_means x l p d zero h i = sym (none_fit (renamed x))
  fits_means (leaf sp y) l p d (suc left) h i = sym (still l p d (leaf sp y) left h i refl) ∙ sym (leaf_fits sp y left)
  fits_means (around sp (repeat o) x) l p d (suc left) h i = sym (still l p d (around sp (repeat o) x) left h i refl)
  fits_means (around sp choose x) l p d (suc left) h i = sym (deeper l p d (around sp choose x) left h i refl) ∙ fits_means x (l - 1) (p + long_of wd (get_or w p 0)) d left (inside l p d sp choose x h) i
  fits_means (around sp (name b y) x) l p d (suc left) h i = sym (deeper l p d (around sp (name b y) x) left h i refl) ∙ fits_means x (l - 1) (p + long_of wd (get_or w p 0)) d left (inside l p d sp (name b y) x h) i
  fits_means (over sp o xs) l p d (suc left) h i = sym (still l p d (over sp o xs) left h i refl)

-- ---- every one that stands there
and-true : (b : Bool) → b ≡ b && true
and-true true = refl
and-true false = refl

module _ (s w : List ℕ) (g : Ground) (n lim p span levels : ℕ) (v : Appended) (f : Bool) (i : f ≡ fits_at g.width.bytes g.end w levels p) (u : Appended) (j : u ≡ record { to = v.to; count = v.count; deep = v.deep || not f }) where
  module _ (ps : List ℕ) (four : Bool) (left from end : ℕ) (x : Sym) (sp : Span) (R : Argument s w g n lim p span v ps four left from end x sp) where
    stands : SymStands s w g.m g.width.bytes four left p (g.from + end) x
    stands = subst (λ (q : ℕ). SymStands s w g.m g.width.bytes four left q (g.from + end) x) (sym R.at) (argument-stands s w g n lim p span v ps four left from end x sp R)

    upto : g.from + end ≤ g.end
    unfolding size_in
    upto = omega (arith, R.referring.inside, R.going.ground.ordered)

    pub any_long : p + 9 ≤ g.end
    any_long = omega (arith, upto, stands.lies.end, sym_length g.width.bytes (texts s w g.m) x, node_size g.width.bytes (texts s w g.m) x)

    fits_is : f ≡ sym_fits (at sp (renamed x)) levels
    fits_is = i ∙ fits_means s w g.m g.width.bytes four g.end x left p (g.from + end) levels stands upto ∙ sym (at-fits sp (renamed x) levels)

    asked : Appends s g n lim ps w v (nested f) u w
    asked = subst (λ (y : Appended). Appends s g n lim ps w v (nested f) y w) (sym j) (appends_nested s g n lim ps w v f R.going)

    pub any_now : Argument s w g n lim p span u ps four left from end x sp
    any_now = record { going = asked.going; at = R.at; referring = R.referring; span_is = R.span_is; span_fits = R.span_fits }

    pub any_code : expanded_code (get_or w p 0) ≡ is_key x
    any_code = subst (λ (q : ℕ). expanded_code (get_or w q 0) ≡ is_key x) (sym R.at)
        (stands_code s w g R.going.ground four left from end x (argument-stands s w g n lim p span v ps four left from end x sp R) R.referring.inside)

    pub any_whole : (r : Appended) (w' : List ℕ) → Appends s g n lim ps w u (symbol_piece g.width.bytes (at sp (renamed x)) true) r w' → Appends s g n lim ps w v (sym_piece g.width.bytes (at sp (renamed x)) levels) r w'
    any_whole r w' a =
        appends_is s g n lim ps w v (then_piece (nested f) (symbol_piece g.width.bytes (at sp (renamed x)) true)) r w'
        (appends_then s g n lim ps w v (nested f) u w (symbol_piece g.width.bytes (at sp (renamed x)) true) r w' (steady_nested f) R.going asked a)
        (sym_piece g.width.bytes (at sp (renamed x)) levels) refl refl (sym fits_is ∙ and-true f)

  -- ---- the code
  module _ (K : AnyArgument s w g n lim p span v) (e : Bool) (z : e ≡ expanded_code (get_or w p 0)) where
    some_key : K.kind ≡ e
    some_key = let S = K.some in sym S.key ∙ sym (any_code S.places S.four S.left S.from S.end S.symbol S.span_of S.is) ∙ sym z

    pub any_some : (b : Bool) → e ≡ b → SomeArgument b s w g n lim p span u
    any_some b d =
        let S = K.some in
        record {
          places = S.places;
          four = S.four;
          left = S.left;
          from = S.from;
          end = S.end;
          symbol = S.symbol;
          span_of = S.span_of;
          key = S.key ∙ some_key ∙ d;
          is = any_now S.places S.four S.left S.from S.end S.symbol S.span_of S.is;
        }

    pub any_put : (b : Bool) → e ≡ b → (r : Appended) (w' : List ℕ) → PutsOne b s w g n lim p span u r w' → PutsArgument s w g n lim p span levels v r w'
    unfolding PutsOne PutsArgument
    any_put b d r w' P ps four left from end x sp R =
        any_whole ps four left from end x sp R r w'
        (P ps four left from end x sp (sym (any_code ps four left from end x sp R) ∙ sym z ∙ d) (any_now ps four left from end x sp R))

    pub any_from : e ≡ true → g.from ≤ p
    any_from d = named-from s w g n lim p span u (any_some true d)

    pub any_named : e ≡ true → Nameable s w g n lim (p - g.from) u
    any_named d = named_some s w g n lim p span u (any_some true d)

    pub any_name_put : e ≡ true → (r : Appended) (w' : List ℕ) → PutsNamed s w g n lim (p - g.from) span u r w' → PutsArgument s w g n lim p span levels v r w'
    any_name_put d r w' P = any_put true d r w' (named_put s w g n lim p span u r w' P)

pub any_here : (s w : List ℕ) (g : Ground) (n lim p span : ℕ) (v : Appended) → AnyArgument s w g n lim p span v → p < length w
any_here s w g n lim p span v K =
    let S = K.some in
    omega (arith, any_long s w g n lim p span 0 v (fits_at g.width.bytes g.end w 0 p) refl (record { to = v.to; count = v.count; deep = v.deep || not (fits_at g.width.bytes g.end w 0 p) }) refl S.places S.four S.left S.from S.end S.symbol S.span_of S.is, S.is.going.behind)

pub ruleset putting_any = (rules, any_some, any_put, any_from, any_named, any_name_put, any_here)
