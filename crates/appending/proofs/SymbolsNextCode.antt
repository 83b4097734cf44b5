-- Laws of `put_next`: one symbol or command of those to come. Assumes nothing.
use mathlib.Core.Path.{◌≡◌, sym, ap, ◌∙◌}
use mathlib.Core.Bool.{Bool, true, false}
use mathlib.Core.List.{List}
use Prim.Native.Nat.{ℕ, ◌+◌, ◌-◌, ◌<◌, ◌≤◌}
use native.Mathlib.Omega.{arith}
use mir.Syntax.{w64}
use mir.Val.{Fits}
use borrow.Author.Rules.{rules}
use lib.ListN.{length, get_or}
use Rattle.parse_tree.specs.Plain.Tree.{Sym, Syms, nil, cons, count}
use Rattle.parse_tree.specs.Working.Nodes.{long_of}
use Rattle.parse_tree.specs.Working.Nested.{inside_at}
use Rattle.replacing.specs.Trees.{is_key}
use Rattle.expander.specs.declared.Ground.{Ground}
use Rattle.expander.specs.Ground.{size_in}
use Rattle.expander.specs.Replace.{expanded_code}
use Rattle.appending.specs.declared.symbols.Copied.{Copied}
use Rattle.appending.specs.declared.symbols.Coming.{Coming}
use Rattle.appending.specs.Pieces.{Appending}
use Rattle.appending.specs.Symbols.{Referring, SomeReferring, SomeReference, PutsReference, PutsCommand, Onward, PutsNext}
use Rattle.appending.proofs.SymbolsFirst.{first_long, first_inside, first_code, first_reference, named-long, named-on, named-onward, first_upto, first_few, copied_long, copied_on, copied_onward}

-- the first of those to come
record First (s w : List ℕ) (g : Ground) (n lim : ℕ) (x : Coming) : Type 0 where
  pub places : List ℕ
  pub four : Bool
  pub left : ℕ
  pub end : ℕ
  pub one : Sym
  pub others : Syms
  pub many : count (cons one others) ≡ x.many
  pub going : Appending s g n lim places w x.run.out
  pub referring : Referring s w g places four left x.run.at end (cons one others)

module _ (s w : List ℕ) (g : Ground) (n lim : ℕ) (x : Coming) (K : SomeReferring s w g n lim x.run.at x.many x.run.out) (l : 0 < x.many) where
  F : First s w g n lim x
  unfolding count
  F = go K.symbols K.many K.referring
    where
      go : (ys : Syms) → count ys ≡ x.many → Referring s w g K.places K.four K.left x.run.at K.end ys → First s w g n lim x
      go nil m r = absurd (omega arith)
      go (cons y ys) m r = record { places = K.places; four = K.four; left = K.left; end = K.end; one = y; others = ys; many = m; going = K.going; referring = r }

  room : g.from + x.run.at + 9 ≤ g.end
  unfolding size_in
  room =
      omega (
        arith,
        first_long s w g n lim F.places F.four F.left F.end F.one F.others x F.going F.referring,
        first_inside s w g n lim F.places F.four F.left F.end F.one F.others x F.going F.referring,
        F.going.ground.ordered,
      )

  pub next_here : g.from + x.run.at < length w
  next_here = omega (arith, room, F.going.behind)

  pub next_behind : g.from + x.run.at + (10 + g.width.bytes) ≤ length w
  next_behind = omega (arith, room, g.width.wide, F.going.behind)

  pub next_far : g.from + x.run.at + 17 ≤ length w
  next_far = omega (arith, room, F.going.behind)

  pub next_inside : lim ≤ length w
  next_inside = F.going.inside

  -- the code that was read
  module _ (c : ℕ) (d : c ≡ get_or w (g.from + x.run.at) 0) (e : Bool) (i : e ≡ expanded_code c) where
    -- every first symbol is expanded, or none is
    key_is : (ps : List ℕ) (four : Bool) (left end : ℕ) (y : Sym) (ys : Syms) → Appending s g n lim ps w x.run.out → Referring s w g ps four left x.run.at end (cons y ys) → is_key y ≡ e
    key_is ps four left end y ys A R = sym (first_code s w g n lim ps four left end y ys x A R) ∙ ap expanded_code (sym d) ∙ sym i

    own_key : is_key F.one ≡ e
    own_key = key_is F.places F.four F.left F.end F.one F.others F.going F.referring

    -- ---- expanded
    module _ (f : e ≡ true) where
      pub next_reference : SomeReference s w g n lim x.run
      next_reference = record {
        places = F.places;
        four = F.four;
        left = F.left;
        end = _;
        symbol = F.one;
        is = first_reference s w g n lim F.places F.four F.left F.end F.one F.others x F.going F.referring (own_key ∙ f);
      }

      pub next_named : (r : Copied) (w' : List ℕ) → PutsReference s w g n lim x.run r w' → PutsNext s w g n lim x (record { many = x.many - 1; run = r }) w'
      unfolding count
      next_named r w' P = record {
        long = named-long s w g n lim F.places F.four F.left F.end F.one F.others x F.going F.referring (own_key ∙ f) r w' P;
        on = named-on s w g n lim F.places F.four F.left F.end F.one F.others x F.going F.referring (own_key ∙ f) r w' P;
        each = each;
      }
        where
          each : (ps : List ℕ) (four : Bool) (left end : ℕ) (ys : Syms) → count ys ≡ x.many → Appending s g n lim ps w x.run.out → Referring s w g ps four left x.run.at end ys
              → Onward s w g n lim ps four left end ys x (record { many = x.many - 1; run = r }) w'
          each ps four left end nil m A R = absurd (omega arith)
          each ps four left end (cons y ys) m A R = named-onward s w g n lim ps four left end y ys x A R (key_is ps four left end y ys A R ∙ f) r w' P m

    -- ---- copied
    module _ (f : e ≡ false) where
      pub next_upto : g.from + x.run.at + long_of g.width.bytes c ≤ x.run.out.to
      next_upto = omega (arith, first_upto s w g n lim F.places F.four F.left F.end F.one F.others x F.going F.referring (own_key ∙ f) c d, F.going.items)

      module _ (h : ℕ) (j : h ≡ inside_at g.width.bytes w (g.from + x.run.at)) where
        pub next_fits : Fits w64 (x.many - 1 + h)
        next_fits = record {
          fits = omega (arith, first_few s w g n lim F.places F.four F.left F.end F.one F.others x F.going F.referring (own_key ∙ f) c d h j F.many, F.going.ground.short);
        }

        pub next_copied : (r : Copied) (w' : List ℕ) → PutsCommand w g.from g.width.bytes lim x.run c r w' → PutsNext s w g n lim x (record { many = x.many - 1 + h; run = r }) w'
        unfolding count
        next_copied r w' P = record {
          long = copied_long s w g n lim F.places F.four F.left F.end F.one F.others x F.going F.referring (own_key ∙ f) c d h j r w' P;
          on = copied_on s w g n lim F.places F.four F.left F.end F.one F.others x F.going F.referring (own_key ∙ f) c d h j r w' P;
          each = each;
        }
          where
            each : (ps : List ℕ) (four : Bool) (left end : ℕ) (ys : Syms) → count ys ≡ x.many → Appending s g n lim ps w x.run.out → Referring s w g ps four left x.run.at end ys
                → Onward s w g n lim ps four left end ys x (record { many = x.many - 1 + h; run = r }) w'
            each ps four left end nil m A R = absurd (omega arith)
            each ps four left end (cons y ys) m A R = copied_onward s w g n lim ps four left end y ys x A R (key_is ps four left end y ys A R ∙ f) c d h j r w' P m

pub ruleset coming = (rules, next_here, next_behind, next_far, next_inside, next_reference, next_named, next_upto, next_fits, next_copied)
