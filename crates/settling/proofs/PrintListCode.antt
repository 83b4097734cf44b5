-- Symbols printed to another place of work: the loop of print_list. Assumes nothing.
use mathlib.Core.Path.{◌≡◌, refl, sym, ap, ◌∙◌}
use mathlib.Core.Bool.{Bool}
use mathlib.Core.List.{List, [], ◌++◌, append-nil}
use Prim.Native.Nat.{ℕ, ◌+◌, ◌-◌, ◌<◌, ◌≤◌}
use native.Mathlib.Omega.{arith}
use borrow.Author.Rules.{rules}
use lib.ListN.{length}
use Rattle.octets.specs.Working.Choice.{pick}
use Rattle.parse_tree.specs.Plain.Tree.{Text, Sym, Syms, nil, cons, count}
use Rattle.parse_tree.specs.Plain.Display.{shown_all, print}
use Rattle.texts.specs.declared.Map.{Map}
use Rattle.display.specs.Standing.{SymStands, SymsStand}
use Rattle.display.specs.Follow.{between_by}
use Rattle.display.proofs.StandsLaws.{first_stands, none_stand}
use Rattle.precedence.specs.Write.{Puts}
use Rattle.precedence.proofs.WriteLaws.{puts_none}
use Rattle.settling.specs.declared.Printed.{Printed}
use Rattle.settling.specs.Print.{Printable, OneBelow, SomeBelow, PrintsList, PrintsSymbol}
use Rattle.settling.proofs.PutLaws.{then}
use Rattle.settling.proofs.PrintTexts.{rest_text, rest_none, rest_one}
use Rattle.settling.proofs.PrintLaws.{next_on, printable_next, symbol_next, symbols_next}
use Rattle.settling.proofs.PrintSymbolCode.{syms_end}

module _ (s w : List ℕ) (m : Map) (wd n left at code lim to : ℕ) where
  -- k of the symbols xs are to come, from p on; the others are put
  pub record Onward (out : List ℕ) (four : Bool) (e : ℕ) (xs : Syms) (p k d : ℕ) (bytes : List ℕ) : Type 0 where
    pub ys : Syms
    pub many : count ys ≡ k
    pub stand : SymsStand s out m wd four left p e ys
    pub same : bytes ++ rest_text d ys (between_by code 1) ≡ shown_all xs (between_by code 1) []

  pub record Going (out : List ℕ) (k d : ℕ) (r : Printed) : Type 0 where
    pub printable : Printable s out m wd lim r.to
    pub some : SomeBelow s out m wd k left r.at to
    pub on : to ≤ r.to
    pub bytes : List ℕ
    pub puts : Puts w lim to bytes r.to out
    pub each : (four : Bool) (e : ℕ) (xs : Syms) → count xs ≡ n → SymsStand s w m wd four left at e xs → e ≤ to → Onward out four e xs r.at k d bytes

  pub going_start : Printable s w m wd lim to → SomeBelow s w m wd n left at to → Going w n 0 (record { at = at; to = to })
  unfolding rest_text pick
  going_start g h = record {
    printable = g;
    some = h;
    on = omega arith;
    bytes = [];
    puts = puts_none w lim to g.stop;
    each = λ four e xs q z l. record { ys = xs; many = q; stand = z; same = refl };
  }

  module _ (out : List ℕ) (k d : ℕ) (r : Printed) (g : Going out k d r) where
    pub going_done : k ≤ 0 → PrintsList s w m wd n left at code lim to r out
    unfolding count
    going_done z = record { bytes = g.bytes; puts = g.puts; printable = g.printable; each = λ four e xs c h l. go four e xs (g.each four e xs c h l) }
      where
        last : (four : Bool) (e : ℕ) (xs ys : Syms) → count ys ≡ k → SymsStand s out m wd four left r.at e ys → g.bytes ++ rest_text d ys (between_by code 1) ≡ shown_all xs (between_by code 1) []
            → (r.at ≡ e) × (g.bytes ≡ shown_all xs (between_by code 1) [])
        last four e xs nil c h t = (none_stand s out m wd four left r.at e h, sym (append-nil g.bytes) ∙ ap (λ (u : Text). g.bytes ++ u) (sym (rest_none d (between_by code 1))) ∙ t)
        last four e xs (cons y ys) c h t = absurd (omega arith)

        go : (four : Bool) (e : ℕ) (xs : Syms) → Onward out four e xs r.at k d g.bytes → (r.at ≡ e) × (g.bytes ≡ shown_all xs (between_by code 1) [])
        go four e xs o = last four e xs o.ys o.many o.stand o.same

    pub going_same : length out ≡ length w
    going_same = g.puts.long

    pub going_inside : lim ≤ length out
    going_inside = g.printable.inside

    pub going_stop : r.to ≤ lim + 1
    going_stop = g.printable.stop

    module _ (q : ℕ) (w1 : List ℕ) (between : Puts out lim r.to (between_by code d) q w1) where
      pub between-printable : Printable s w1 m wd lim q
      between-printable = printable_next s out m wd lim r.to g.printable (between_by code d) q w1 between

      on_one : to ≤ q
      on_one = omega (arith, g.on, next_on s out m wd lim r.to g.printable (between_by code d) q w1 between)

      -- a symbol that ends at `to` or before stays
      stays : (four : Bool) (e : ℕ) (y : Sym) → e ≤ to → SymStands s out m wd four left r.at e y → SymStands s w1 m wd four left r.at e y
      stays four e y h st = symbol_next s out m wd lim r.to g.printable (between_by code d) q w1 between four left r.at e y (omega (arith, g.on)) st

      -- the first of them
      pub going_first : 0 < k → OneBelow s w1 m wd left r.at q
      unfolding count
      going_first some = go g.some.symbols g.some.many g.some.stand
        where
          go : (ys : Syms) → count ys ≡ k → SymsStand s out m wd g.some.four left r.at g.some.end ys → OneBelow s w1 m wd left r.at q
          go nil c h = absurd (omega arith)
          go (cons y ys) c h =
              let a = first_stands s out m wd g.some.four left r.at g.some.end y ys h in
              let j = syms_end s out m wd g.some.four left _ g.some.end ys a.1 in
              record { four = g.some.four; end = _; symbol = y; stands = stays g.some.four _ y (omega (arith, j, g.some.below)) a.0; below = omega (arith, j, g.some.below, on_one) }

      module _ (z : Printed) (w2 : List ℕ) (printed : PrintsSymbol s w1 m wd left r.at lim q z w2) where
        pieces : List ℕ
        pieces = between_by code d ++ printed.bytes

        put : Puts out lim r.to pieces z.to w2
        unfolding pieces
        put = then between printed.puts

        told : (four : Bool) (e : ℕ) (y : Sym) → e ≤ to → SymStands s out m wd four left r.at e y → (z.at ≡ e) × (printed.bytes ≡ print y)
        told four e y h st = printed.each four e y (stays four e y h st) (omega (arith, on_one))

        -- the others stay
        others_stay : (four : Bool) (a e : ℕ) (ys : Syms) → e ≤ to → SymsStand s out m wd four left a e ys → SymsStand s w2 m wd four left a e ys
        others_stay four a e ys h st = symbols_next s out m wd lim r.to g.printable pieces z.to w2 put four left a e ys (omega (arith, g.on)) st

        next-some : 0 < k → SomeBelow s w2 m wd (k - 1) left z.at to
        unfolding count
        next-some some = go g.some.symbols g.some.many g.some.stand
          where
            go : (ys : Syms) → count ys ≡ k → SymsStand s out m wd g.some.four left r.at g.some.end ys → SomeBelow s w2 m wd (k - 1) left z.at to
            go nil c st = absurd (omega arith)
            go (cons y ys) c st =
                let a = first_stands s out m wd g.some.four left r.at g.some.end y ys st in
                let j = syms_end s out m wd g.some.four left _ g.some.end ys a.1 in
                let t = (told g.some.four _ y (omega (arith, j, g.some.below)) a.0).0 in
                record { four = g.some.four; end = g.some.end; symbols = ys; many = omega arith; stand = rw t (others_stay g.some.four _ g.some.end ys g.some.below a.1); below = g.some.below }

        next_each : 0 < k → (four : Bool) (e : ℕ) (xs : Syms) → e ≤ to → Onward out four e xs r.at k d g.bytes → Onward w2 four e xs z.at (k - 1) (d + 1) (g.bytes ++ pieces)
        unfolding count pieces
        next_each some four e xs h v = go v.ys v.many v.stand v.same
          where
            go : (ys : Syms) → count ys ≡ k → SymsStand s out m wd four left r.at e ys → g.bytes ++ rest_text d ys (between_by code 1) ≡ shown_all xs (between_by code 1) []
                → Onward w2 four e xs z.at (k - 1) (d + 1) (g.bytes ++ pieces)
            go nil c st t = absurd (omega arith)
            go (cons y ys) c st t =
                let a = first_stands s out m wd four left r.at e y ys st in
                let j = syms_end s out m wd four left _ e ys a.1 in
                let u = told four _ y (omega (arith, j)) a.0 in
                let v = u.0 in
                record { ys = ys; many = omega arith; stand = rw v (others_stay four _ e ys h a.1); same = rest_one g.bytes code d y ys printed.bytes u.1 ∙ t }

        pub going_next : 0 < k → Going w2 (k - 1) (d + 1) z
        going_next some = record {
          printable = printed.printable;
          some = next-some some;
          on = omega (arith, g.on, next_on s out m wd lim r.to g.printable pieces z.to w2 put);
          bytes = g.bytes ++ pieces;
          puts = then g.puts put;
          each = λ four e xs c st h. next_each some four e xs h (g.each four e xs c st h);
        }

pub ruleset listing = (rules, going_start, going_done, going_same, going_inside, going_stop, between-printable, going_first, going_next)
