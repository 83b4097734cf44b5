-- The first of symbols to come, and what is appended of it: its name, or its command. Assumes nothing.
use mathlib.Core.Path.{◌≡◌, refl, sym, ap, ◌∙◌, subst}
use mathlib.Core.Bool.{Bool, true, false}
use mathlib.Core.List.{List, ◌++◌, append-nil}
use Prim.Native.Nat.{ℕ, ◌+◌, ◌-◌, ◌<◌, ◌≤◌}
use native.Mathlib.Omega.{arith}
use lib.ListN.{length, get_or}
use Rattle.octets.specs.Plain.Runs.{part, Lies}
use Rattle.octets.proofs.LiesLaws.{lies_split, lies_part}
use Rattle.parse_tree.specs.Plain.Tree.{Text, Sym, Syms, nil, cons, count}
use Rattle.parse_tree.specs.Plain.Texts.{with_new}
use Rattle.parse_tree.specs.Plain.References.{sym_texts, syms_texts}
use Rattle.parse_tree.specs.Working.Nodes.{node_bytes, size_of, long_of}
use Rattle.parse_tree.specs.Working.Encode.{sym_bytes, syms_bytes}
use Rattle.parse_tree.specs.Working.Within.{Each}
use Rattle.parse_tree.specs.Working.Nested.{inside_at}
use Rattle.texts.specs.Table.{texts}
use Rattle.laws.specs.Flat.{sym_node, children, joined}
use Rattle.laws.proofs.Flat.{Step, SymsFits, syms_fit_lem, sym_bytes_lem, step, node_size}
use Rattle.grades.proofs.CodesMean.{Codes, first_codes}
use Rattle.display.proofs.StandsLaws.{first_stands}
use Rattle.replacing.specs.Slots.{among}
use Rattle.replacing.specs.Trees.{renamed, renamed_all, is_key}
use Rattle.replacing.proofs.Growing.{Extends}
use Rattle.expander.specs.declared.Ground.{Ground}
use Rattle.expander.specs.Ground.{size_in, Grounded}
use Rattle.expander.specs.Names.{listed_texts, named_in}
use Rattle.expander.specs.Replace.{expanded_code, keys_of_all, StandsAt, StandAt}
use Rattle.expander.proofs.KeysLaws.{sym_length, stands_code}
use Rattle.appending.specs.declared.Appended.{Appended}
use Rattle.appending.specs.declared.symbols.Copied.{Copied}
use Rattle.appending.specs.declared.symbols.Coming.{Coming}
use Rattle.appending.specs.Pieces.{plainly, then_piece, symbols_piece, Appending, Appends}
use Rattle.appending.specs.Symbols.{Referring, Reference, PutsReference, PutsCommand, Onward}
use Rattle.appending.proofs.PiecesLaws.{steady_plainly, steady_symbols, appends_then, appends_is, appends_puts}
use Rattle.appending.proofs.SymbolsTrees.{first_within, plain-keys, own_key, plain-bytes, plain-texts, count-few}
use Rattle.appending.proofs.SymbolsStays.{texts-stay, referring_stays}

-- the texts by number begin with those of the table
named-extends : (s w w' : List ℕ) (g : Ground) (c : ℕ) → texts s w' g.m ≡ texts s w g.m → Extends (texts s w g.m) (named_in s w' g c)
unfolding named_in
named-extends s w w' g c e = record { more = listed_texts s w' g c; is = ap (λ (ts : List Text). ts ++ listed_texts s w' g c) e }

-- x says how many are to come, and where: y, then ys
module _ (s w : List ℕ) (g : Ground) (n lim : ℕ) (ps : List ℕ) (four : Bool) (left e : ℕ) (y : Sym) (ys : Syms) (x : Coming) (A : Appending s g n lim ps w x.run.out) (R : Referring s w g ps four left x.run.at e (cons y ys)) where
  abbrev q : Copied
  q = x.run

  abbrev G : Grounded s w g
  G = A.ground

  abbrev ts : List Text
  ts = texts s w g.m

  abbrev wd : ℕ
  wd = g.width.bytes

  abbrev here : ℕ
  here = g.from + q.at

  abbrev size : ℕ
  size = size_of wd (sym_node ts y)

  fits : SymsFits wd ts (cons y ys)
  fits = syms_fit_lem wd ts four (cons y ys) left R.stand.within

  pub first_step : Step wd ts w here (g.from + e) y ys
  first_step = step wd ts w here (g.from + e) y ys fits R.stand.lies

  codes : Codes wd 0 w here (sym_node ts y)
  codes = first_codes wd 0 ts w here (g.from + e) y ys fits R.stand.lies

  -- ---- it stands there, and the others behind it
  abbrev end : ℕ
  end = q.at + length (sym_bytes wd ts y)

  end_is : g.from + end ≡ here + length (sym_bytes wd ts y)
  end_is = omega arith

  first : StandsAt s w g four left q.at end y
  first = rw end_is (first_stands s w g.m wd four left here (g.from + e) y ys R.stand).0

  others : StandAt s w g four left end e ys
  others = rw end_is (first_stands s w g.m wd four left here (g.from + e) y ys R.stand).1

  before : end ≤ e
  before = omega (arith, others.lies.end)

  pub first_long : q.at + 9 ≤ end
  first_long = omega (arith, sym_length wd ts y, node_size wd ts y)

  pub first_inside : end ≤ size_in g
  first_inside = omega (arith, before, R.inside)

  pub first_code : expanded_code (get_or w here 0) ≡ is_key y
  first_code = stands_code s w g G four left q.at end y first first_inside

  -- ---- it is expanded
  module _ (k : is_key y ≡ true) where
    own : (among q.at ps ≡ true) × Each (λ (p : ℕ). among p ps ≡ true) (keys_of_all wd ts ys end)
    own = own_key wd ts (λ (p : ℕ). among p ps ≡ true) y ys q.at k R.referred

    pub first_reference : Reference s w g n lim q ps four left end y
    first_reference = record { going = A; stands = first; inside = first_inside; levels = R.levels; key = k; here = own.0 }

    module _ (r : Copied) (w' : List ℕ) (P : PutsReference s w g n lim q r w') where
      put : (r.at ≡ end) × Appends s g n lim ps w q.out (symbols_piece wd (cons y nil)) r.out w'
      unfolding PutsReference
      put = P ps four left end y first_reference

      pub named-long : length w' ≡ length w
      named-long = put.1.long

      pub named-on : q.at < r.at
      named-on = omega (arith, put.0, first_long)

      name_carry : (v' : Appended) (w'' : List ℕ) → Appends s g n lim ps w' r.out (symbols_piece wd ys) v' w'' → Appends s g n lim ps w q.out (symbols_piece wd (cons y ys)) v' w''
      unfolding renamed_all syms_texts syms_bytes
      name_carry v' w'' b =
          let T = named_in s w'' g v'.count in
          appends_is s g n lim ps w q.out (then_piece (symbols_piece wd (cons y nil)) (symbols_piece wd ys)) v' w''
          (appends_then s g n lim ps w q.out (symbols_piece wd (cons y nil)) r.out w' (symbols_piece wd ys) v' w'' (steady_symbols wd (cons y nil)) A put.1 b)
          (symbols_piece wd (cons y ys))
          (ap (λ (us : List Text). with_new (named_in s w g q.out.count) (us ++ syms_texts (renamed_all ys))) (sym (append-nil (sym_texts (renamed y)))))
          (ap (λ (l : List ℕ). l ++ syms_bytes wd T (renamed_all ys)) (sym (append-nil (sym_bytes wd T (renamed y))))) refl

      pub named-onward : count (cons y ys) ≡ x.many → Onward s w g n lim ps four left e (cons y ys) x (record { many = x.many - 1; run = r }) w'
      unfolding count
      named-onward m = record {
        zs = ys;
        many = omega arith;
        going = put.1.going;
        referring = referring_stays s g n lim ps w q.out A (symbols_piece wd (cons y nil)) r.out w' put.1 four left r.at e ys
            (subst (λ (p : ℕ). Referring s w g ps four left p e ys) (sym put.0) (record { stand = others; inside = R.inside; levels = R.levels; referred = own.1 }));
        carry = name_carry;
      }

  -- ---- it is not: the code c of its command was read, and how many symbols h stand inside
  module _ (k : is_key y ≡ false) (c : ℕ) (d : c ≡ get_or w here 0) where
    abbrev zs : Syms
    zs = joined (children y) ys

    pub first_size : long_of wd c ≡ size_of wd (sym_node ts y)
    first_size = ap (long_of wd) d ∙ codes.size

    pub first_upto : here + long_of wd c ≤ g.end
    unfolding size_in
    first_upto = omega (arith, first_size, first_step.room, R.inside, G.ordered)

    module _ (h : ℕ) (i : h ≡ inside_at wd w here) where
      many_is : count (cons y ys) ≡ x.many → count zs ≡ x.many - 1 + h
      unfolding count
      many_is m = omega (arith, first_step.many, codes.held)

      pub first_few : count (cons y ys) ≡ x.many → x.many - 1 + h ≤ length w
      first_few m = omega (arith, many_is m, count-few wd ts zs, first_step.lies.end, first_step.below)

      module _ (r : Copied) (w' : List ℕ) (P : PutsCommand w g.from g.width.bytes lim q c r w') where
        -- the bytes of the command
        command : Lies w here (node_bytes wd (sym_node ts y)) (here + long_of wd c)
        unfolding size_of
        command =
            let z = subst (λ (l : List ℕ). Lies w here l (g.from + end)) (sym_bytes_lem wd ts y) first.lies in
            subst (λ (j : ℕ). Lies w here (node_bytes wd (sym_node ts y)) j) (ap (λ (j : ℕ). here + j) (sym first_size))
            (lies_split w here (g.from + end) (node_bytes wd (sym_node ts y)) (syms_bytes wd ts (children y)) z).0

        bytes_are : part here (here + long_of wd c) w ≡ node_bytes wd (sym_node ts y)
        bytes_are = lies_part w here (here + long_of wd c) (node_bytes wd (sym_node ts y)) command

        abbrev bytes : List ℕ
        bytes = part here (here + long_of wd c) w

        copied : Appends s g n lim ps w q.out (plainly bytes) r.out w'
        copied = subst (λ (v : Appended). Appends s g n lim ps w q.out (plainly bytes) v w') (sym P.out) (appends_puts s g n lim ps w q.out bytes r.out.to w' A P.puts)

        pub copied_long : length w' ≡ length w
        copied_long = copied.long

        pub copied_on : q.at < r.at
        copied_on = omega (arith, P.at, first_size, first_step.large)

        copied_carry : (v' : Appended) (w'' : List ℕ) → Appends s g n lim ps w' r.out (symbols_piece wd zs) v' w'' → Appends s g n lim ps w q.out (symbols_piece wd (cons y ys)) v' w''
        copied_carry v' w'' b =
            let T = named_in s w'' g v'.count in
            let both = appends_then s g n lim ps w q.out (plainly bytes) r.out w' (symbols_piece wd zs) v' w'' (steady_plainly bytes) A copied b in
            let same = texts-stay s g n lim ps w q.out A (then_piece (plainly bytes) (symbols_piece wd zs)) v' w'' both in
            appends_is s g n lim ps w q.out (then_piece (plainly bytes) (symbols_piece wd zs)) v' w'' both (symbols_piece wd (cons y ys))
            (plain-texts four wd ts (named_in s w g q.out.count) (named-extends s w w g q.out.count refl) y left R.stand.within.0 k ys)
            (plain-bytes four wd ts T (named-extends s w w'' g v'.count same) y left R.stand.within.0 k ys ∙ ap (λ (l : List ℕ). l ++ syms_bytes wd T (renamed_all zs)) (sym bytes_are)) refl

        next_place : g.from + r.at ≡ here + size_of wd (sym_node ts y)
        next_place = omega (arith, P.at, first_size)

        keys_place_lem : q.at + size_of wd (sym_node ts y) ≡ r.at
        keys_place_lem = omega (arith, P.at, first_size)

        there : Referring s w g ps four left r.at e zs
        there = record {
          stand = record { within = first_within four wd ts y ys left R.stand.within; lies = subst (λ (j : ℕ). Lies w j (syms_bytes wd ts zs) (g.from + e)) (sym next_place) first_step.lies };
          inside = R.inside;
          levels = R.levels;
          referred = subst (λ (j : ℕ). Each (λ (p : ℕ). among p ps ≡ true) (keys_of_all wd ts zs j)) keys_place_lem (subst (Each (λ (p : ℕ). among p ps ≡ true)) (sym (plain-keys wd ts y ys q.at k)) R.referred);
        }

        pub copied_onward : count (cons y ys) ≡ x.many → Onward s w g n lim ps four left e (cons y ys) x (record { many = x.many - 1 + h; run = r }) w'
        copied_onward m = record {
          zs = zs;
          many = many_is m;
          going = copied.going;
          referring = referring_stays s g n lim ps w q.out A (plainly bytes) r.out w' copied four left r.at e zs there;
          carry = copied_carry;
        }
