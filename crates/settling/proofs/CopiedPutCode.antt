-- The ways out of put_walked, put_one, put_around, put_part, behind and put_symbol. Assumes nothing.
use mathlib.Core.Path.{◌≡◌, refl, sym, ap, ◌∙◌}
use mathlib.Core.Bool.{Bool}
use mathlib.Core.List.{List, []}
use Prim.Native.Nat.{ℕ, ◌+◌, ◌-◌, ◌*◌, ◌^◌, ◌<◌, ◌≤◌}
use native.Mathlib.Omega.{arith}
use borrow.Author.Rules.{rules}
use borrow.Author.Tests.{ne_eqb, le-ltb}
use lib.ListN.{length, get_or}
use mir.Syntax.{w64}
use mir.Val.{Fits}
use Rattle.std.specs.Prelude.{Option, Some}
use Rattle.octets.specs.Working.Choice.{pick}
use Rattle.parse_tree.specs.Plain.Tree.{Text, Sym, Syms, nil, cons, count}
use Rattle.parse_tree.specs.Plain.Display.{shown_all, shown_more, print}
use Rattle.parse_tree.specs.Working.Encode.{sym_bytes}
use Rattle.parse_tree.specs.Working.Within.{Each}
use Rattle.parse_tree.specs.Working.Nodes.{long_of}
use Rattle.parse_tree.specs.Working.Nested.{inside_by}
use Rattle.texts.specs.Fields.{mark_at}
use Rattle.texts.specs.Table.{texts}
use Rattle.texts.specs.Texts.{marked_text}
use Rattle.laws.specs.Flat.{children}
use Rattle.display.specs.Follow.{before_by, behind_by, between_by}
use Rattle.display.proofs.StandsLaws.{between_text, first_stands, none_stand}
use Rattle.precedence.specs.Write.{Puts}
use Rattle.precedence.proofs.WriteLaws.{puts_none}
use Rattle.expander.specs.declared.Ground.{Ground}
use Rattle.expander.specs.Ground.{size_in, printed_at, Grounded}
use Rattle.expander.specs.Meet.{SymbolLies, SomeEnd, EndsAt}
use Rattle.expander.specs.Replace.{keys_of, keys_of_all, StandsAt, StandAt}
use Rattle.expander.proofs.KeysLaws.{stands_print}
use Rattle.appending.proofs.SymbolsTrees.{each-parts}
use Rattle.settling.specs.declared.copied.Print.{Print}
use Rattle.settling.specs.Print.{Printable, Closing}
use Rattle.settling.specs.Copied.{TextStands, Said, Copying, SaidSymbol, SaidSymbols, KnownText, SaidAround, Behinds, PutsAll}
use Rattle.settling.proofs.PutLaws.{puts_as}
use Rattle.settling.proofs.CopiedTrees.{said_within, said_left, said_room, said_high, said_below, said_walked, said_many, here, before_on, before-inside, before-stand, inside-closing, parts_put}

pub copying_print : (s w : List ℕ) (x : Print) (to : ℕ) → Copying s w x to → Printable s w x.g.m x.g.width.bytes x.lim to
copying_print s w x to C = C.printable

-- none are printed as nothing
none_shown : (ys : Syms) (sep : Text) → count ys ≡ 0 → [] ≡ shown_all ys sep []
unfolding count shown_all
none_shown nil sep e = refl
none_shown (cons y ys) sep e = absurd (omega arith)

module _ (s w : List ℕ) (x : Print) (left p to : ℕ) (C : Copying s w x to) (h : SaidSymbol s w x left p) where
  abbrev g : Ground
  g = x.g

  abbrev at : ℕ
  at = x.g.from + p

  -- ---- put_walked
  module _ (c : ℕ) (d : c ≡ get_or w at 0) (q : ℕ) (w1 : List ℕ) (A : Puts w x.lim to (before_by g.width.bytes (texts s w g.m) w at c) q w1) where
    still : Puts w1 x.lim q [] q w1
    still = puts_none w1 x.lim q (before_on s w x left p h to C c d q w1 A).printable.stop

    pub leaf_closing : Closing w1 g.width.bytes at c x.lim q
    leaf_closing = inside-closing s w x left p h to C c d q w1 A [] q w1 still

    pub leaf_put : (n : ℕ) → n ≡ inside_by g.width.bytes w at c → n ≡ 0 → (r : ℕ) (w2 : List ℕ) → Puts w1 x.lim q (behind_by w1 at c) r w2 → Puts w x.lim to (printed_at s w g p) r w2
    leaf_put n m e r w2 D = parts_put s w x left p h to C c d q w1 A [] q w1 still (none_shown (children h.symbol) (between_text h.symbol) (said_many s w x left p h c d ∙ sym m ∙ e)) r w2 D

  -- ---- put_one
  pub copied_put : (f : Option ℕ) (k r : ℕ) (w1 : List ℕ) → KnownText s w x p f → f ≡ Some k → Puts w x.lim to (marked_text s w (mark_at w g.m.base k)) r w1 → Puts w x.lim to (printed_at s w g p) r w1
  copied_put f k r w1 K l a = puts_as (K.is k l) a

  pub copied_stands : (f : Option ℕ) (k : ℕ) → KnownText s w x p f → f ≡ Some k → TextStands s w x k
  copied_stands f k K l = K.stands k l

  -- ---- put_symbol
  module _ (c : ℕ) (d : c ≡ get_or w at 0) (q : ℕ) (w1 : List ℕ) (A : Puts w x.lim to (before_by g.width.bytes (texts s w g.m) w at c) q w1) where
    pub symbol_on : Copying s w1 x q
    symbol_on = before_on s w x left p h to C c d q w1 A

    pub symbol_inside : (n l e : ℕ) → n ≡ inside_by g.width.bytes w at c → l ≡ long_of g.width.bytes c → e ≡ p + l → SaidSymbols s w1 x n (left - 1) e
    symbol_inside n l e m f i = rw (i, f) (before-inside s w x left p h to C c d q w1 A n m)

    module _ (n l e : ℕ) (m : n ≡ inside_by g.width.bytes w at c) (f : l ≡ long_of g.width.bytes c) (i : e ≡ p + l) (z : ℕ) (w2 : List ℕ) (B : PutsAll s w1 x n (left - 1) e c q z w2) where
      pub symbol_closing : Closing w2 g.width.bytes at c x.lim z
      symbol_closing = inside-closing s w x left p h to C c d q w1 A B.bytes z w2 B.puts

      inside_is : B.bytes ≡ shown_all (children h.symbol) (between_text h.symbol) []
      inside_is =
          let b : between_by c 1 ≡ between_text h.symbol = ap (λ (v : ℕ). between_by v 1) d ∙ (here s w x left p h).reads.between 0 in
          B.each h.four h.end (children h.symbol) (said_many s w x left p h c d ∙ sym m) (rw (i, f) (before-stand s w x left p h to C c d q w1 A)) h.inside
          ∙ ap (λ (v : Text). shown_all (children h.symbol) v []) b

      pub symbol_put : (r : ℕ) (w3 : List ℕ) → Puts w2 x.lim z (behind_by w2 at c) r w3 → Puts w x.lim to (printed_at s w g p) r w3
      symbol_put r w3 D = parts_put s w x left p h to C c d q w1 A B.bytes z w2 B.puts inside_is r w3 D

pub ruleset walking = (rules, copying_print, said_within, said_room, said_high, leaf_closing, leaf_put, said_walked, said_below)

pub ruleset choosing = (rules, copied_put, copied_stands)

pub ruleset symbolling = (rules, copying_print, said_within, said_left, said_room, said_high, symbol_on, symbol_inside, symbol_closing, symbol_put)

-- ---- put_around
around_one : (wd : ℕ) (w : List ℕ) (at c : ℕ) → 39 ≤ c → c ≤ 40 → inside_by wd w at c ≡ 1
unfolding inside_by pick
around_one wd w at c a b = cc (ne_eqb c 37 (λ e. absurd (omega arith)), ne_eqb c 41 (λ e. absurd (omega arith)), le-ltb c 38 (omega arith), le-ltb 40 c (omega arith))

-- one of a list of one
one_said : (s w : List ℕ) (x : Print) (left p : ℕ) → SaidSymbols s w x 1 left p → SaidSymbol s w x left p
unfolding count keys_of_all
one_said s w x left p h = go h.symbols h.many h.stand h.said
  where
    go : (ys : Syms) → count ys ≡ 1 → StandAt s w x.g h.four left p h.end ys → Each (Said s w x) (keys_of_all x.g.width.bytes (texts s w x.g.m) ys p) → SaidSymbol s w x left p
    go nil m st k = absurd (omega arith)
    go (cons y nil) m st k =
        let a = first_stands s w x.g.m x.g.width.bytes h.four left (x.g.from + p) (x.g.from + h.end) y nil st in
        let z = none_stand s w x.g.m x.g.width.bytes h.four left _ (x.g.from + h.end) a.1 in
        record {
          four = h.four;
          end = h.end;
          symbol = y;
          levels = h.levels;
          stands = rw z at a.0;
          inside = h.inside;
          said = (each-parts (Said s w x) (keys_of x.g.width.bytes (texts s w x.g.m) y p) (keys_of_all x.g.width.bytes (texts s w x.g.m) nil (p + length (sym_bytes x.g.width.bytes (texts s w x.g.m) y))) k).0;
        }
    go (cons y (cons z zs)) m st k = absurd (omega arith)

-- its printed form is theirs
one_shown : (s w : List ℕ) (g : Ground) (four : Bool) (left p e : ℕ) (ys : Syms) (sep : Text) → Grounded s w g → left ≤ 64 → e ≤ size_in g → count ys ≡ 1 → StandAt s w g four left p e ys → printed_at s w g p ≡ shown_all ys sep []
unfolding count shown_all shown_more print
one_shown s w g four left p e nil sep G l i m st = absurd (omega arith)
one_shown s w g four left p e (cons y nil) sep G l i m st =
    let a = first_stands s w g.m g.width.bytes four left (g.from + p) (g.from + e) y nil st in
    let z = none_stand s w g.m g.width.bytes four left _ (g.from + e) a.1 in
    stands_print s w g G four left p e y (rw z at a.0) i l
one_shown s w g four left p e (cons y (cons z zs)) sep G l i m st = absurd (omega arith)

module _ (s w : List ℕ) (x : Print) (left p c to : ℕ) (C : Copying s w x to) (k : SaidAround s w x left p c) where
  abbrev j : SaidSymbol s w x left p
  j = k.symbol

  pub around_room : x.g.from + p + long_of x.g.width.bytes c ≤ length w
  around_room = said_room s w x left p j c k.code

  pub around_high : 32 ≤ c
  around_high = omega (arith, k.from)

  pub around_left : 1 ≤ left
  around_left = said_left s w x left p j

  module _ (q : ℕ) (w1 : List ℕ) (A : Puts w x.lim to (before_by x.g.width.bytes (texts s w x.g.m) w (x.g.from + p) c) q w1) where
    pub around_on : Copying s w1 x q
    around_on = before_on s w x left p j to C c k.code q w1 A

    one : 1 ≡ inside_by x.g.width.bytes w (x.g.from + p) c
    one = sym (around_one x.g.width.bytes w (x.g.from + p) c k.from k.upto)

    pub around_inside : (l e : ℕ) → l ≡ long_of x.g.width.bytes c → e ≡ p + l → SaidSymbol s w1 x (left - 1) e
    around_inside l e f i = rw (i, f) (one_said s w1 x (left - 1) (p + long_of x.g.width.bytes c) (before-inside s w x left p j to C c k.code q w1 A 1 one))

    module _ (l e : ℕ) (f : l ≡ long_of x.g.width.bytes c) (i : e ≡ p + l) (z : ℕ) (w2 : List ℕ) (B : Puts w1 x.lim q (printed_at s w1 x.g e) z w2) where
      pub around_closing : Closing w2 x.g.width.bytes (x.g.from + p) c x.lim z
      around_closing = inside-closing s w x left p j to C c k.code q w1 A (printed_at s w1 x.g e) z w2 B

      pub around_put : (r : ℕ) (w3 : List ℕ) → Puts w2 x.lim z (behind_by w2 (x.g.from + p) c) r w3 → Puts w x.lim to (printed_at s w x.g p) r w3
      around_put r w3 D =
          let m : count (children j.symbol) ≡ 1 = said_many s w x left p j c k.code ∙ sym one in
          let st = before-stand s w x left p j to C c k.code q w1 A in
          let b : printed_at s w1 x.g (p + long_of x.g.width.bytes c) ≡ shown_all (children j.symbol) (between_text j.symbol) [] =
          one_shown s w1 x.g j.four (left - 1) (p + long_of x.g.width.bytes c) j.end (children j.symbol) (between_text j.symbol) around_on.ground (omega (arith, j.levels)) j.inside m st in
          parts_put s w x left p j to C c k.code q w1 A (printed_at s w1 x.g e) z w2 B (ap (printed_at s w1 x.g) (i ∙ ap (λ (v : ℕ). p + v) f) ∙ b) r w3 D

pub ruleset surrounding = (rules, copying_print, around_room, around_high, around_left, around_on, around_inside, around_closing, around_put)

-- ---- put_part
pub part-around : (s w : List ℕ) (x : Print) (left p c : ℕ) → SaidSymbol s w x left p → c ≡ get_or w (x.g.from + p) 0 → 39 ≤ c → c ≤ 40 → SaidAround s w x left p c
part-around s w x left p c h d a b = record { symbol = h; code = d; from = a; upto = b }

pub ruleset parting = (rules, said_within, part-around)

-- ---- behind
module _ (s w : List ℕ) (x : Print) (left p k : ℕ) (h : SaidSymbol s w x left p) where
  pub behind_none : k < 2 → Behinds s w x left p k p
  unfolding Behinds
  behind_none l = λ i four e y st n. absurd (omega arith)

  pub behind_fits : length w * 1 < 2 ^ 63 → Fits w64 (x.g.from + p)
  behind_fits l = record { fits = omega (arith, said_within s w x left p h) }

  stands_lies : (four : Bool) (e : ℕ) (y : Sym) → StandsAt s w x.g four left p e y → SymbolLies w x.g.width.bytes (x.g.from + p) (x.g.from + e)
  stands_lies four e y st = record { texts = texts s w x.g.m; four = four; left = left; symbol = y; within = st.within; lies = st.lies }

  pub behind_some : SomeEnd w x.g.width.bytes (x.g.from + p)
  behind_some = record { end = x.g.from + h.end; lies = stands_lies h.four h.end h.symbol h.stands }

  module _ (r : ℕ) (f : EndsAt w x.g.width.bytes (x.g.from + p) r) where
    end_is : (four : Bool) (e : ℕ) (y : Sym) → StandsAt s w x.g four left p e y → r ≡ x.g.from + e
    unfolding EndsAt
    end_is four e y st = f (x.g.from + e) (stands_lies four e y st)

    pub behind_from : x.g.from ≤ r
    behind_from = omega (arith, end_is h.four h.end h.symbol h.stands)

    pub behind_end : Behinds s w x left p k (r - x.g.from)
    unfolding Behinds
    behind_end = λ i four e y st o. omega (arith, end_is four e y st)

pub ruleset behinding = (rules, behind_fits, behind_none, behind_some, behind_from, behind_end)
