-- A symbol printed to another place of work: what print_symbol asks of the functions that it calls, and its way out. Assumes nothing.
use mathlib.Core.Path.{◌≡◌, sym, ap, ◌∙◌}
use mathlib.Core.Bool.{Bool}
use mathlib.Core.Logic.{inl}
use mathlib.Core.List.{List, [], ◌++◌}
use Prim.Native.Nat.{ℕ, ◌+◌, ◌-◌, ◌*◌, ◌<◌, ◌≤◌}
use native.Mathlib.Omega.{arith}
use borrow.Author.Rules.{rules}
use lib.ListN.{get_or}
use Rattle.parse_tree.specs.Plain.Tree.{Text, Sym, Syms, count}
use Rattle.parse_tree.specs.Plain.Display.{shown_all, print}
use Rattle.parse_tree.specs.Working.Nodes.{long_of}
use Rattle.parse_tree.specs.Working.Nested.{inside_by}
use Rattle.texts.specs.declared.Map.{Map}
use Rattle.texts.specs.Table.{texts}
use Rattle.laws.specs.Flat.{children}
use Rattle.display.specs.Standing.{SymStands, SymsStand}
use Rattle.display.specs.Follow.{before_by, behind_by, between_by}
use Rattle.display.proofs.StandsLaws.{Standing, before_text, between_text, behind_text, standing, print-whole}
use Rattle.precedence.specs.Write.{Puts}
use Rattle.precedence.proofs.WriteLaws.{puts_beside}
use Rattle.settling.specs.declared.Printed.{Printed}
use Rattle.settling.specs.declared.print.Opened.{Opened}
use Rattle.settling.specs.Print.{Printable, Opening, Closing, OpensPrint, OneBelow, SomeBelow, PrintsList, PrintsSymbol}
use Rattle.settling.proofs.PutLaws.{then}
use Rattle.settling.proofs.PrintLaws.{next_on, printable_next, symbol_next}

-- theorem: symbols end where they begin or behind
pub syms_end : (s w : List ℕ) (m : Map) (wd : ℕ) (four : Bool) (left at e : ℕ) (xs : Syms) → SymsStand s w m wd four left at e xs → at ≤ e
syms_end s w m wd four left at e xs h = omega (arith, h.lies.end)

-- ---- what is asked behind the symbols inside
pub closing-next : (s w w2 w3 : List ℕ) (m : Map) (wd left p lim q : ℕ) (f : Opened) (z : Printed) → OpensPrint s w m wd p lim q f w2 → PrintsList s w2 m wd f.inside left f.at f.code lim f.to z w3 → Closing w3 wd p f.code lim z.to
closing-next s w w2 w3 m wd left p lim q f z front printed = record { room = omega (arith, front.room, front.end, printed.puts.long, front.before.long); inside = printed.printable.inside; stop = printed.printable.stop }

module _ (s w : List ℕ) (m : Map) (wd left p lim q : ℕ) (g : Printable s w m wd lim q) (b : OneBelow s w m wd left p q) where
  known : Standing s w m wd b.four left p b.end b.symbol
  known = standing s w m wd b.four left p b.end b.symbol b.stands

  pub one_opening : Opening w wd p
  one_opening = record { within = known.within; room = known.room; high = known.reads.high }

  one_deep : 0 < left
  one_deep = known.deep

  pub one_left : 1 ≤ left
  one_left = known.deep

  -- the nesting left falls
  pub one_falls : (t : ℕ) → 2 * left ≡ t → 2 * (left - 1) + 1 < t
  one_falls t e = omega (arith, one_deep)

  module _ (f : Opened) (w2 : List ℕ) (front : OpensPrint s w m wd p lim q f w2) where
    pub one_front : Printable s w2 m wd lim f.to
    one_front = printable_next s w m wd lim q g (before_by wd (texts s w m) w p f.code) f.to w2 front.before

    on : q ≤ f.to
    on = next_on s w m wd lim q g (before_by wd (texts s w m) w p f.code) f.to w2 front.before

    place_is : (o : ℕ) → o ≡ f.code → f.at ≡ p + long_of wd o
    place_is o e = front.end ∙ ap (λ (v : ℕ). p + long_of wd v) (sym e)

    -- a symbol that ends at q or before stays
    module _ (four : Bool) (e : ℕ) (y : Sym) (h : e ≤ q) (st : SymStands s w m wd four left p e y) where
      here : Standing s w m wd four left p e y
      here = standing s w m wd four left p e y st

      stays : SymStands s w2 m wd four left p e y
      stays = symbol_next s w m wd lim q g (before_by wd (texts s w m) w p f.code) f.to w2 front.before four left p e y h st

      before-end : p < q
      before-end = omega (arith, syms_end s w m wd four (left - 1) _ e (children y) here.inside, place_is (get_or w p 0) (sym front.code), front.long)

      -- its code stays
      code_stays : get_or w2 p 0 ≡ f.code
      code_stays = puts_beside w w2 lim q (before_by wd (texts s w m) w p f.code) f.to front.before p (inl before-end) ∙ sym front.code

      before-is : before_by wd (texts s w m) w p f.code ≡ before_text y
      before-is = ap (before_by wd (texts s w m) w p) front.code ∙ here.reads.before

      counted : count (children y) ≡ f.inside
      counted = sym (front.inside ∙ ap (inside_by wd w p) front.code ∙ here.reads.held)

      between_is : between_by f.code 1 ≡ between_text y
      between_is = ap (λ (v : ℕ). between_by v 1) front.code ∙ here.reads.between 0

      inside-stands : SymsStand s w2 m wd four (left - 1) f.at e (children y)
      inside-stands =
          let z : f.at ≡ p + long_of wd (get_or w2 p 0) = place_is (get_or w2 p 0) code_stays in
          rw z (standing s w2 m wd four left p e y stays).inside

    pub one_inside : SomeBelow s w2 m wd f.inside (left - 1) f.at f.to
    one_inside = record {
      four = b.four;
      end = b.end;
      symbols = children b.symbol;
      many = counted b.four b.end b.symbol b.below b.stands;
      stand = inside-stands b.four b.end b.symbol b.below b.stands;
      below = omega (arith, b.below, on);
    }

    module _ (z : Printed) (w3 : List ℕ) (printed : PrintsList s w2 m wd f.inside (left - 1) f.at f.code lim f.to z w3) (r : ℕ) (w4 : List ℕ) (behind : Puts w3 lim z.to (behind_by w3 p f.code) r w4) where
      pieces : List ℕ
      pieces = before_by wd (texts s w m) w p f.code ++ (printed.bytes ++ behind_by w3 p f.code)

      put : Puts w lim q pieces r w4
      unfolding pieces
      put = then front.before (then printed.puts behind)

      module _ (four : Bool) (e : ℕ) (y : Sym) (st : SymStands s w m wd four left p e y) (h : e ≤ q) where
        told : (z.at ≡ e) × (printed.bytes ≡ shown_all (children y) (between_by f.code 1) [])
        told = printed.each four e (children y) (counted four e y h st) (inside-stands four e y h st) (omega (arith, on))

        stands_on : SymStands s w3 m wd four left p e y
        stands_on = symbol_next s w2 m wd lim f.to one_front printed.bytes z.to w3 printed.puts four left p e y (omega (arith, on)) (stays four e y h st)

        code_on : get_or w3 p 0 ≡ f.code
        code_on = puts_beside w2 w3 lim f.to printed.bytes z.to printed.puts p (inl (omega (arith, before-end four e y h st, on))) ∙ code_stays four e y h st

        behind_is : behind_by w3 p f.code ≡ behind_text y
        behind_is = ap (behind_by w3 p) (sym code_on) ∙ (standing s w3 m wd four left p e y stands_on).reads.behind

        inner : printed.bytes ≡ shown_all (children y) (between_text y) []
        inner = told.1 ∙ ap (λ (v : Text). shown_all (children y) v []) (between_is four e y h st)

        whole : pieces ≡ print y
        unfolding pieces
        whole = cc (before-is four e y h st, inner, behind_is, print-whole y)

      pub one_done : PrintsSymbol s w m wd left p lim q (record { at = z.at; to = r }) w4
      one_done = record { bytes = pieces; puts = put; printable = printable_next s w m wd lim q g pieces r w4 put; each = λ four e y st h. ((told four e y st h).0, whole four e y st h) }

pub ruleset symboling = (rules, one_opening, one_left, one_falls, one_front, one_inside, closing-next, one_done)
