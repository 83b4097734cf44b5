-- The loop of put_parts: the symbols straight inside one, each copied or walked through. Assumes nothing.
use mathlib.Core.Path.{◌≡◌, refl, sym, ap, ◌∙◌}
use mathlib.Core.Bool.{Bool}
use mathlib.Core.List.{List, [], ◌++◌, append-nil}
use Prim.Native.Nat.{ℕ, ◌+◌, ◌-◌, ◌<◌, ◌≤◌}
use native.Mathlib.Omega.{arith}
use borrow.Author.Rules.{rules}
use lib.ListN.{length}
use Rattle.octets.specs.Working.Choice.{pick}
use Rattle.parse_tree.specs.Plain.Tree.{Text, Sym, Syms, nil, cons, count}
use Rattle.parse_tree.specs.Plain.Display.{shown_all, print}
use Rattle.parse_tree.specs.Working.Encode.{sym_bytes}
use Rattle.parse_tree.specs.Working.Within.{Each}
use Rattle.texts.specs.Table.{texts}
use Rattle.display.specs.Follow.{between_by}
use Rattle.display.proofs.StandsLaws.{first_stands}
use Rattle.precedence.specs.Write.{Puts}
use Rattle.precedence.proofs.WriteLaws.{puts_none}
use Rattle.expander.specs.declared.Ground.{Ground}
use Rattle.expander.specs.Ground.{size_in, printed_at, Grounded}
use Rattle.expander.specs.Replace.{keys_of, keys_of_all, StandsAt, StandAt}
use Rattle.expander.proofs.KeysLaws.{stands_print}
use Rattle.appending.proofs.SymbolsTrees.{each-parts}
use Rattle.settling.specs.declared.copied.Print.{Print}
use Rattle.settling.specs.Copied.{Said, Copying, SaidSymbol, SaidSymbols, Behinds, PutsAll}
use Rattle.settling.proofs.PutLaws.{then}
use Rattle.settling.proofs.PrintTexts.{rest_text, rest_none, rest_one}
use Rattle.settling.proofs.CopiedStays.{copying_next, stands_next, stand_next, symbol_said, symbols_said}

-- ---- the first of symbols that stand in the stage, and the others
module _ (s w : List ℕ) (g : Ground) (four : Bool) (left a e : ℕ) (y : Sym) (ys : Syms) (st : StandAt s w g four left a e (cons y ys)) where
  abbrev next : ℕ
  next = a + length (sym_bytes g.width.bytes (texts s w g.m) y)

  next_is : g.from + next ≡ g.from + a + length (sym_bytes g.width.bytes (texts s w g.m) y)
  next_is = omega arith

  first_at : StandsAt s w g four left a next y
  first_at = rw next_is (first_stands s w g.m g.width.bytes four left (g.from + a) (g.from + e) y ys st).0

  others_at : StandAt s w g four left next e ys
  others_at = rw next_is (first_stands s w g.m g.width.bytes four left (g.from + a) (g.from + e) y ys st).1

  first_before : next ≤ e
  first_before = omega (arith, others_at.lies.end)

module _ (s w : List ℕ) (x : Print) (n left p code to : ℕ) where
  abbrev g : Ground
  g = x.g

  -- k of the symbols xs are to come, from a on; the others are put
  pub record Onward (out : List ℕ) (four : Bool) (e : ℕ) (xs : Syms) (a k d : ℕ) (bytes : List ℕ) : Type 0 where
    pub ys : Syms
    pub many : count ys ≡ k
    pub stand : 0 < k → StandAt s out x.g four left a e ys
    pub same : bytes ++ rest_text d ys (between_by code 1) ≡ shown_all xs (between_by code 1) []

  pub record Going (out : List ℕ) (a k d q : ℕ) : Type 0 where
    pub copying : Copying s out x q
    pub some : 0 < k → SaidSymbols s out x k left a
    pub bytes : List ℕ
    pub puts : Puts w x.lim to bytes q out
    pub each : (four : Bool) (e : ℕ) (xs : Syms) → count xs ≡ n → StandAt s w x.g four left p e xs → e ≤ size_in x.g → Onward out four e xs a k d bytes

  pub parts_start : Copying s w x to → SaidSymbols s w x n left p → Going w p n 0 to
  unfolding rest_text pick
  parts_start C h = record {
    copying = C;
    some = λ l. h;
    bytes = [];
    puts = puts_none w x.lim to C.printable.stop;
    each = λ four e xs q z l. record { ys = xs; many = q; stand = λ i. z; same = refl };
  }

  module _ (out : List ℕ) (a k d q : ℕ) (v : Going out a k d q) where
    pub parts_done : k ≤ 0 → PutsAll s w x n left p code to q out
    unfolding count
    parts_done z = record { bytes = v.bytes; puts = v.puts; each = λ four e xs c h l. go xs (v.each four e xs c h l).ys (v.each four e xs c h l).many (v.each four e xs c h l).same }
      where
        go : (xs ys : Syms) → count ys ≡ k → v.bytes ++ rest_text d ys (between_by code 1) ≡ shown_all xs (between_by code 1) [] → v.bytes ≡ shown_all xs (between_by code 1) []
        go xs nil c t = sym (append-nil v.bytes) ∙ ap (λ (u : Text). v.bytes ++ u) (sym (rest_none d (between_by code 1))) ∙ t
        go xs (cons y ys) c t = absurd (omega arith)

    pub parts_same : length out ≡ length w
    parts_same = v.puts.long

    pub parts_limit : x.lim ≤ length out
    parts_limit = v.copying.printable.inside

    pub parts_stop : q ≤ x.lim + 1
    parts_stop = v.copying.printable.stop

    module _ (l : 0 < k) where
      first_said : SaidSymbol s out x left a
      unfolding count keys_of_all
      first_said = go (v.some l).symbols (v.some l).many (v.some l).stand (v.some l).said
        where
          go : (ys : Syms) → count ys ≡ k → StandAt s out g (v.some l).four left a (v.some l).end ys → Each (Said s out x) (keys_of_all g.width.bytes (texts s out g.m) ys a) → SaidSymbol s out x left a
          go nil c st h = absurd (omega arith)
          go (cons y ys) c st h = record {
            four = (v.some l).four;
            end = next s out g (v.some l).four left a (v.some l).end y ys st;
            symbol = y;
            levels = (v.some l).levels;
            stands = first_at s out g (v.some l).four left a (v.some l).end y ys st;
            inside = omega (arith, first_before s out g (v.some l).four left a (v.some l).end y ys st, (v.some l).inside);
            said = (each-parts (Said s out x) (keys_of g.width.bytes (texts s out g.m) y a) (keys_of_all g.width.bytes (texts s out g.m) ys (a + length (sym_bytes g.width.bytes (texts s out g.m) y))) h).0;
          }

      module _ (z : ℕ) (w2 : List ℕ) (B : Puts out x.lim q (between_by code d) z w2) where
        pub parts_on : Copying s w2 x z
        parts_on = copying_next s out x q v.copying (between_by code d) z w2 B

        pub parts_first : SaidSymbol s w2 x left a
        parts_first = symbol_said s out x q v.copying (between_by code d) z w2 B left a first_said

        module _ (r : ℕ) (w3 : List ℕ) (D : Puts w2 x.lim z (printed_at s w2 x.g a) r w3) where
          copying_three : Copying s w3 x r
          copying_three = copying_next s w2 x z parts_on (printed_at s w2 x.g a) r w3 D

          pub parts_ground : Grounded s w3 x.g
          parts_ground = copying_three.ground

          pub parts_behind : x.g.end + 16 ≤ length w3
          parts_behind = copying_three.behind

          pub parts_again : SaidSymbol s w3 x left a
          parts_again = symbol_said s w2 x z parts_on (printed_at s w2 x.g a) r w3 D left a parts_first

          module _ (b : ℕ) (E : Behinds s w3 x left a k b) where
            abbrev pieces : List ℕ
            pieces = between_by code d ++ printed_at s w2 x.g a

            put : Puts out x.lim q pieces r w3
            put = then B D

            module _ (four : Bool) (e : ℕ) (y : Sym) (ys : Syms) (i : e ≤ size_in x.g) (st : StandAt s out x.g four left a e (cons y ys)) where
              abbrev end : ℕ
              end = next s out g four left a e y ys st

              end_in : end ≤ size_in x.g
              end_in = omega (arith, first_before s out g four left a e y ys st, i)

              stands_two : StandsAt s w2 g four left a end y
              stands_two = stands_next s out x q v.copying (between_by code d) z w2 B four left a end y end_in (first_at s out g four left a e y ys st)

              stands_three : StandsAt s w3 g four left a end y
              stands_three = stands_next s w2 x z parts_on (printed_at s w2 x.g a) r w3 D four left a end y end_in stands_two

              -- behind it, if others are to come
              end_is : 1 < k → b ≡ end
              unfolding Behinds
              end_is o = E o four end y stands_three end_in

              others_stand : 0 < k - 1 → StandAt s w3 g four left b e ys
              others_stand o =
                  let u = end_is (omega arith) in
                  rw u (stand_next s out x q v.copying pieces r w3 put four left end e ys i (others_at s out g four left a e y ys st))

            print-is : left ≤ 64 → (four : Bool) (e : ℕ) (y : Sym) (ys : Syms) (i : e ≤ size_in x.g) (st : StandAt s out x.g four left a e (cons y ys)) → printed_at s w2 x.g a ≡ print y
            print-is h four e y ys i st = stands_print s w2 g parts_on.ground four left a _ y (stands_two four e y ys i st) (end_in four e y ys i st) h

            next-some : 0 < k - 1 → SaidSymbols s w3 x (k - 1) left b
            unfolding count keys_of_all
            next-some o = go (v.some l).symbols (v.some l).many (v.some l).stand (v.some l).said
              where
                go : (ys : Syms) → count ys ≡ k → StandAt s out g (v.some l).four left a (v.some l).end ys → Each (Said s out x) (keys_of_all g.width.bytes (texts s out g.m) ys a) → SaidSymbols s w3 x (k - 1) left b
                go nil c st h = absurd (omega arith)
                go (cons y ys) c st h =
                    let u = end_is (v.some l).four (v.some l).end y ys (v.some l).inside st (omega arith) in
                    rw u (symbols_said s out x q v.copying pieces r w3 put (k - 1) left (next s out g (v.some l).four left a (v.some l).end y ys st) (record {
                      four = (v.some l).four;
                      end = (v.some l).end;
                      symbols = ys;
                      many = omega arith;
                      levels = (v.some l).levels;
                      stand = others_at s out g (v.some l).four left a (v.some l).end y ys st;
                      inside = (v.some l).inside;
                      said = (each-parts (Said s out x) (keys_of g.width.bytes (texts s out g.m) y a) (keys_of_all g.width.bytes (texts s out g.m) ys (a + length (sym_bytes g.width.bytes (texts s out g.m) y))) h).1;
                    }))

            next_each : (four : Bool) (e : ℕ) (xs : Syms) → e ≤ size_in x.g → Onward out four e xs a k d v.bytes → Onward w3 four e xs b (k - 1) (d + 1) (v.bytes ++ pieces)
            unfolding count
            next_each four e xs i o = go o.ys o.many (o.stand l) o.same
              where
                go : (ys : Syms) → count ys ≡ k → StandAt s out g four left a e ys → v.bytes ++ rest_text d ys (between_by code 1) ≡ shown_all xs (between_by code 1) [] → Onward w3 four e xs b (k - 1) (d + 1) (v.bytes ++ pieces)
                go nil c st t = absurd (omega arith)
                go (cons y ys) c st t = record {
                  ys = ys;
                  many = omega arith;
                  stand = others_stand four e y ys i st;
                  same = rest_one v.bytes code d y ys (printed_at s w2 x.g a) (print-is (v.some l).levels four e y ys i st) ∙ t;
                }

            pub parts_next : Going w3 b (k - 1) (d + 1) r
            parts_next = record {
              copying = copying_three;
              some = next-some;
              bytes = v.bytes ++ pieces;
              puts = then v.puts put;
              each = λ four e xs c st i. next_each four e xs i (v.each four e xs c st i);
            }

pub ruleset looping = (rules, parts_start, parts_done, parts_same, parts_limit, parts_stop, parts_on, parts_first, parts_ground, parts_behind, parts_again, parts_next)
