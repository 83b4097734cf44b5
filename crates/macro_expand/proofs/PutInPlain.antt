-- The symbol for a parameter, which is not expanded: its command at the parameter's span, then what stands inside. Assumes nothing.
use mathlib.Core.Path.{◌≡◌, refl, sym, ap, ◌∙◌, subst}
use mathlib.Core.Bool.{Bool, true, false, false≢true}
use mathlib.Core.List.{List, [], ◌∷◌, ◌++◌, append-nil}
use Prim.Native.Nat.{ℕ, zero, suc, ◌+◌, ◌-◌, ◌≤◌, ◌<◌}
use native.Mathlib.Omega.{arith}
use borrow.Author.Rules.{rules}
use lib.ListN.{length, get_or}
use Rattle.octets.specs.Plain.Numbers.{le}
use Rattle.octets.specs.Plain.Runs.{part, Lies}
use Rattle.octets.proofs.LiesLaws.{lies_first, lies_split, lies_from, lies_part}
use Rattle.parse_tree.specs.Plain.Tree.{Text, Leaf, Sym, Syms, ambiguous, bare, quoted, regex, nonterminal, lookahead, lookbehind, error, repeat, choose, name, leaf, around, over, nil, cons, count}
use Rattle.parse_tree.specs.Plain.Texts.{with_new}
use Rattle.parse_tree.specs.Plain.References.{sym_texts, syms_texts}
use Rattle.parse_tree.specs.Working.Nodes.{span_bytes, node_bytes, symbol_bytes, size_of, long_of}
use Rattle.parse_tree.specs.Working.Encode.{around_node, sym_bytes, syms_bytes}
use Rattle.parse_tree.specs.Working.Within.{Each, SpanWithin, SymWithin}
use Rattle.parse_tree.specs.declared.syntax.Span.{Span}
use Rattle.parse_tree.specs.Working.Nested.{inside_at}
use Rattle.parse_tree.proofs.SizeLaws.{length_span}
use Rattle.texts.specs.Table.{texts}
use Rattle.passes.specs.Macros.{at}
use Rattle.laws.specs.Flat.{sym_node, children, joined}
use Rattle.laws.proofs.Flat.{Step, SymsFits, syms_fit_lem, sym_bytes_lem, step}
use Rattle.grades.proofs.CodesMean.{Codes, first_codes}
use Rattle.precedence.specs.Write.{Puts}
use Rattle.replacing.specs.Slots.{among}
use Rattle.replacing.specs.Trees.{renamed, renamed_all, is_key}
use Rattle.replacing.proofs.Growing.{Extends}
use Rattle.expander.specs.declared.Ground.{Ground}
use Rattle.expander.specs.Ground.{size_in, Grounded}
use Rattle.expander.specs.Names.{listed_texts, named_in}
use Rattle.expander.specs.Replace.{keys_of_all}
use Rattle.appending.specs.declared.Appended.{Appended}
use Rattle.appending.specs.declared.symbols.Copied.{Copied}
use Rattle.appending.specs.Pieces.{plainly, then_piece, symbols_piece, Appending, Appends}
use Rattle.appending.specs.Symbols.{Referring, SomeReferring, PutsSymbols}
use Rattle.appending.proofs.PiecesLaws.{steady_plainly, appends_then, appends_is, appends_puts}
use Rattle.appending.proofs.SymbolsTrees.{first_within, plain-keys, plain-bytes, plain-texts}
use Rattle.appending.proofs.SymbolsStays.{texts-stay, referring_stays}
use Rattle.macro_expand.specs.PutIn.{symbol_piece, Argument, SomeArgument, PutsOne}

-- the texts by number begin with those of the table
pub named-extends : (s w w' : List ℕ) (g : Ground) (c : ℕ) → texts s w' g.m ≡ texts s w g.m → Extends (texts s w g.m) (named_in s w' g c)
unfolding named_in
named-extends s w w' g c e = record { more = listed_texts s w' g c; is = ap (λ (ts : List Text). ts ++ listed_texts s w' g c) e }

-- ---- the command at another span
behind_span : (w : List ℕ) (p d c : ℕ) (sp : Span) (ys : List ℕ) → Lies w p (c ∷ (span_bytes sp ++ ys)) d → (get_or w p 0 ≡ c) × (part (p + 9) d w ≡ ys)
behind_span w p d c sp ys l =
    let f = lies_first w p c (span_bytes sp ++ ys) d l in
    let k = lies_split w (p + 1) d (span_bytes sp) ys f.2 in
    let z : p + 1 + length (span_bytes sp) ≡ p + 9 = omega (arith, length_span sp) in
    (f.1, lies_part w (p + 9) d ys (lies_from z k.1))

spanned : (w : List ℕ) (p d c span : ℕ) (sp' sp : Span) (ys : List ℕ) → le 8 span ≡ span_bytes sp → Lies w p (c ∷ (span_bytes sp' ++ ys)) d → get_or w p 0 ∷ (le 8 span ++ part (p + 9) d w) ≡ c ∷ (span_bytes sp ++ ys)
spanned w p d c span sp' sp ys e l = let z = behind_span w p d c sp' ys l in rw (z.0, z.1, e) refl

spanned_node : (wd : ℕ) (ts : List Text) (w : List ℕ) (p d span : ℕ) (sp : Span) (x : Sym) → is_key x ≡ false → le 8 span ≡ span_bytes sp → Lies w p (node_bytes wd (sym_node ts x)) d
    → get_or w p 0 ∷ (le 8 span ++ part (p + 9) d w) ≡ node_bytes wd (sym_node ts (at sp x))
unfolding sym_node node_bytes symbol_bytes around_node
spanned_node wd ts w p d span sp (leaf s l) k e h = spanned w p d _ span s sp _ e h
spanned_node wd ts w p d span sp (around s (repeat o) x) k e h = absurd (false≢true (sym k))
spanned_node wd ts w p d span sp (around s choose x) k e h =
    spanned w p d 39 span s sp [] e (subst (λ (l : List ℕ). Lies w p (39 ∷ l) d) (sym (append-nil (span_bytes s))) h) ∙ ap (λ (l : List ℕ). 39 ∷ l) (append-nil (span_bytes sp))
spanned_node wd ts w p d span sp (around s (name m y) x) k e h = spanned w p d 40 span s sp _ e h
spanned_node wd ts w p d span sp (over s o xs) k e h = absurd (false≢true (sym k))

-- ---- a symbol that is not expanded, at another span
record At (four : Bool) (wd : ℕ) (ts : List Text) (left : ℕ) (sp : Span) (x : Sym) : Type 0 where
  pub key : is_key (at sp x) ≡ false
  pub within : SymWithin four wd ts (at sp x) left
  pub is : renamed (at sp x) ≡ at sp (renamed x)
  pub inner : children (at sp x) ≡ children x

leaf_at : (s sp : Span) (l : Leaf) → is_key (leaf s l) ≡ false → (is_key (leaf sp l) ≡ false) × (renamed (leaf sp l) ≡ at sp (renamed (leaf s l)))
unfolding renamed
leaf_at s sp (ambiguous x) k = (refl, refl)
leaf_at s sp (bare x) k = (refl, refl)
leaf_at s sp (quoted x) k = (refl, refl)
leaf_at s sp (regex x) k = (refl, refl)
leaf_at s sp (nonterminal x) k = (refl, refl)
leaf_at s sp lookahead k = absurd (false≢true (sym k))
leaf_at s sp lookbehind k = absurd (false≢true (sym k))
leaf_at s sp error k = (refl, refl)

at_plain : (four : Bool) (wd : ℕ) (ts : List Text) (left : ℕ) (sp : Span) (x : Sym) → is_key x ≡ false → SpanWithin sp → SymWithin four wd ts x left → At four wd ts left sp x
unfolding renamed children
at_plain four wd ts zero sp (leaf s l) k f h = absurd h
at_plain four wd ts (suc left) sp (leaf s l) k f h = let z = leaf_at s sp l k in record { key = z.0; within = (f, h.1); is = z.1; inner = refl }
at_plain four wd ts left sp (around s (repeat o) x) k f h = absurd (false≢true (sym k))
at_plain four wd ts zero sp (around s choose x) k f h = absurd h
at_plain four wd ts (suc left) sp (around s choose x) k f h = record { key = refl; within = (f, h.1, h.2); is = refl; inner = refl }
at_plain four wd ts zero sp (around s (name m y) x) k f h = absurd h
at_plain four wd ts (suc left) sp (around s (name m y) x) k f h = record { key = refl; within = (f, h.1, h.2); is = refl; inner = refl }
at_plain four wd ts left sp (over s o xs) k f h = absurd (false≢true (sym k))

-- ---- every one that stands there
module _ (s w : List ℕ) (g : Ground) (n lim p span : ℕ) (v : Appended) (ps : List ℕ) (four : Bool) (left from end : ℕ) (x : Sym) (sp : Span) (R : Argument s w g n lim p span v ps four left from end x sp) where
  abbrev G : Grounded s w g
  G = R.going.ground

  abbrev ts : List Text
  ts = texts s w g.m

  abbrev wd : ℕ
  wd = g.width.bytes

  fits : SymsFits wd ts (cons x nil)
  fits = syms_fit_lem wd ts four (cons x nil) left R.referring.stand.within

  lies : Lies w p (syms_bytes wd ts (cons x nil)) (g.from + end)
  lies = lies_from (sym R.at) R.referring.stand.lies

  one : Step wd ts w p (g.from + end) x nil
  one = step wd ts w p (g.from + end) x nil fits lies

  codes : Codes wd 0 w p (sym_node ts x)
  codes = first_codes wd 0 ts w p (g.from + end) x nil fits lies

  size_is : long_of wd (get_or w p 0) ≡ size_of wd (sym_node ts x)
  size_is = codes.size

  pub plain-inside : p + long_of wd (get_or w p 0) ≤ g.end
  unfolding size_in
  plain-inside = omega (arith, size_is, one.room, R.referring.inside, G.ordered)

  pub plain-long : 9 ≤ long_of wd (get_or w p 0)
  plain-long = omega (arith, size_is, one.large)

  abbrev zs : Syms
  zs = joined (children x) nil

  module _ (k : is_key x ≡ false) where
    -- the command
    command : Lies w p (node_bytes wd (sym_node ts x)) (p + long_of wd (get_or w p 0))
    unfolding size_of syms_bytes
    command =
        let z = (lies_split w p (g.from + end) (sym_bytes wd ts x) [] lies).0 in
        let y = subst (λ (l : List ℕ). Lies w p l (p + length (sym_bytes wd ts x))) (sym_bytes_lem wd ts x) z in
        subst (λ (j : ℕ). Lies w p (node_bytes wd (sym_node ts x)) j) (ap (λ (j : ℕ). p + j) (sym size_is))
        (lies_split w p (p + length (sym_bytes wd ts x)) (node_bytes wd (sym_node ts x)) (syms_bytes wd ts (children x)) y).0

    bytes : List ℕ
    bytes = get_or w p 0 ∷ (le 8 span ++ part (p + 9) (p + long_of wd (get_or w p 0)) w)

    bytes_are : bytes ≡ node_bytes wd (sym_node ts (at sp x))
    unfolding bytes
    bytes_are = spanned_node wd ts w p (p + long_of wd (get_or w p 0)) span sp x k R.span_is command

    at-is : At four wd ts left sp x
    at-is = at_plain four wd ts left sp x k R.span_fits R.referring.stand.within.0

    inner : Referring s w g ps four left (p + long_of wd (get_or w p 0) - g.from) end zs
    inner =
        let z : g.from + (p + long_of wd (get_or w p 0) - g.from) ≡ p + size_of wd (sym_node ts x) = omega (arith, R.at, size_is) in
        let y : from + size_of wd (sym_node ts x) ≡ p + long_of wd (get_or w p 0) - g.from = omega (arith, R.at, size_is) in
        record {
          stand = record { within = first_within four wd ts x nil left R.referring.stand.within; lies = lies_from (sym z) one.lies };
          inside = R.referring.inside;
          levels = R.referring.levels;
          referred = subst (λ (j : ℕ). Each (λ (q : ℕ). among q ps ≡ true) (keys_of_all wd ts zs j)) y (subst (Each (λ (q : ℕ). among q ps ≡ true)) (sym (plain-keys wd ts x nil from k)) R.referring.referred);
        }

    module _ (m : ℕ) (i : m ≡ inside_at wd w p) (to : ℕ) (w1 : List ℕ) (P : Puts w lim v.to (get_or w p 0 ∷ (le 8 span ++ part (p + 9) (p + long_of wd (get_or w p 0)) w)) to w1) where
      abbrev u : Appended
      u = record { to = to; count = v.count; deep = v.deep }

      head : Appends s g n lim ps w v (plainly bytes) u w1
      unfolding bytes
      head = appends_puts s g n lim ps w v bytes to w1 R.going P

      pub plain-many : count zs ≡ m
      unfolding count
      plain-many = omega (arith, one.many, codes.held)

      pub plain-going : Appending s g n lim ps w1 u
      plain-going = head.going

      pub plain-referring : Referring s w1 g ps four left (p + long_of wd (get_or w p 0) - g.from) end zs
      plain-referring = referring_stays s g n lim ps w v R.going (plainly bytes) u w1 head four left (p + long_of wd (get_or w p 0) - g.from) end zs inner

      pub plain-appended : (r : Copied) (w2 : List ℕ) → PutsSymbols s w1 g n lim (p + long_of wd (get_or w p 0) - g.from) m u r w2 → Appends s g n lim ps w v (symbol_piece wd (at sp (renamed x)) true) r.out w2
      unfolding PutsSymbols renamed_all syms_bytes syms_texts
      plain-appended r w2 Q =
          let T = named_in s w2 g r.out.count in
          let rest = (Q ps four left end zs plain-many plain-going plain-referring).1 in
          let both = appends_then s g n lim ps w v (plainly bytes) u w1 (symbols_piece wd zs) r.out w2 (steady_plainly bytes) R.going head rest in
          let same = texts-stay s g n lim ps w v R.going (then_piece (plainly bytes) (symbols_piece wd zs)) r.out w2 both in
          let A = at-is in
          let inner-same = ap (λ (ys : Syms). joined ys nil) A.inner in
          appends_is s g n lim ps w v (then_piece (plainly bytes) (symbols_piece wd zs)) r.out w2 both (symbol_piece wd (at sp (renamed x)) true)
          (ap (with_new (named_in s w g v.count)) (ap sym_texts (sym A.is) ∙ sym (append-nil (sym_texts (renamed (at sp x)))))
          ∙ plain-texts four wd ts (named_in s w g v.count) (named-extends s w w g v.count refl) (at sp x) left A.within A.key nil
          ∙ ap (λ (ys : Syms). with_new (named_in s w g v.count) (syms_texts (renamed_all ys))) inner-same)
          (ap (sym_bytes wd T) (sym A.is) ∙ sym (append-nil (sym_bytes wd T (renamed (at sp x))))
          ∙ plain-bytes four wd ts T (named-extends s w w2 g r.out.count same) (at sp x) left A.within A.key nil
          ∙ ap (λ (l : List ℕ). l ++ syms_bytes wd T (renamed_all (joined (children (at sp x)) nil))) (sym bytes_are)
          ∙ ap (λ (ys : Syms). bytes ++ syms_bytes wd T (renamed_all ys)) inner-same) refl

-- ---- the code
module _ (s w : List ℕ) (g : Ground) (n lim p span : ℕ) (v : Appended) (K : SomeArgument false s w g n lim p span v) where
  in_items : p + long_of g.width.bytes (get_or w p 0) ≤ g.end
  in_items = plain-inside s w g n lim p span v K.places K.four K.left K.from K.end K.symbol K.span_of K.is

  some_long_lem : 9 ≤ long_of g.width.bytes (get_or w p 0)
  some_long_lem = plain-long s w g n lim p span v K.places K.four K.left K.from K.end K.symbol K.span_of K.is

  pub one_here : p < length w
  one_here = omega (arith, in_items, some_long_lem, K.is.going.behind)

  pub one_behind : p + (10 + g.width.bytes) ≤ length w
  one_behind = omega (arith, in_items, some_long_lem, g.width.wide, K.is.going.behind)

  pub one_room : lim ≤ length w
  one_room = K.is.going.inside

  module _ (l : ℕ) (z : l ≡ long_of g.width.bytes (get_or w p 0)) where
    pub one_ordered : p + 9 ≤ p + l
    one_ordered = omega (arith, some_long_lem)

    pub one_upto : p + l ≤ v.to
    one_upto = omega (arith, in_items, K.is.going.items)

    pub one_from : g.from ≤ p + l
    one_from = omega (arith, K.is.at)

    module _ (m : ℕ) (i : m ≡ inside_at g.width.bytes w p) (to : ℕ) (w1 : List ℕ) (P : Puts w lim v.to (get_or w p 0 ∷ (le 8 span ++ part (p + 9) (p + l) w)) to w1) where
      put : Puts w lim v.to (get_or w p 0 ∷ (le 8 span ++ part (p + 9) (p + long_of g.width.bytes (get_or w p 0)) w)) to w1
      put = subst (λ (j : ℕ). Puts w lim v.to (get_or w p 0 ∷ (le 8 span ++ part (p + 9) (p + j) w)) to w1) z P

      pub one_referring : SomeReferring s w1 g n lim (p + l - g.from) m (record { to = to; count = v.count; deep = v.deep })
      one_referring =
          subst (λ (j : ℕ). SomeReferring s w1 g n lim (p + j - g.from) m (record { to = to; count = v.count; deep = v.deep })) (sym z) (record {
            places = K.places;
            four = K.four;
            left = K.left;
            end = K.end;
            symbols = _;
            going = plain-going s w g n lim p span v K.places K.four K.left K.from K.end K.symbol K.span_of K.is K.key m i to w1 put;
            many = plain-many s w g n lim p span v K.places K.four K.left K.from K.end K.symbol K.span_of K.is K.key m i to w1 put;
            referring = plain-referring s w g n lim p span v K.places K.four K.left K.from K.end K.symbol K.span_of K.is K.key m i to w1 put;
          })

      pub one_put : (r : Copied) (w2 : List ℕ) → PutsSymbols s w1 g n lim (p + l - g.from) m (record { to = to; count = v.count; deep = v.deep }) r w2 → PutsOne false s w g n lim p span v r.out w2
      unfolding PutsOne
      one_put r w2 Q ps four left from end x sp k R =
          plain-appended s w g n lim p span v ps four left from end x sp R k m i to w1 put r w2
          (subst (λ (j : ℕ). PutsSymbols s w1 g n lim (p + j - g.from) m (record { to = to; count = v.count; deep = v.deep }) r w2) z Q)

pub ruleset plain-one = (rules, one_here, one_behind, one_room, one_ordered, one_upto, one_from, one_referring, one_put)
