-- What stands in work stays where bytes are put behind it; and the loop that puts the texts of elements, one behind another. Assumes nothing.
use mathlib.Core.Path.{◌≡◌, refl, sym, ap, ◌∙◌, subst}
use mathlib.Core.Logic.{inl}
use mathlib.Core.List.{List, [], ◌∷◌, ◌++◌, append-nil, append_assoc}
use Prim.Native.Nat.{ℕ, ◌+◌, ◌-◌, ◌<◌, ◌≤◌}
use native.Mathlib.Omega.{arith}
use borrow.Author.Rules.{rules}
use lib.ListN.{length, drop}
use Rattle.octets.specs.Plain.Runs.{Lies}
use Rattle.octets.proofs.LiesLaws.{lies_inside, lies_split}
use Rattle.parse_tree.specs.Plain.Tree.{Text}
use Rattle.parse_tree.specs.Plain.WriteTape.{bytes_of_each}
use Rattle.texts.specs.declared.Map.{Map}
use Rattle.texts.specs.Table.{texts}
use Rattle.resolve.proofs.CellsLaws.{lies_agree}
use Rattle.precedence.specs.Write.{Puts}
use Rattle.precedence.proofs.WriteLaws.{puts_beside, puts_none}
use Rattle.settling.specs.declared.Printed.{Printed}
use Rattle.settling.specs.Print.{Printable}
use Rattle.settling.proofs.PutLaws.{then}
use Rattle.settling.proofs.PrintLaws.{puts_between, between-texts, next_on, printable_next}
use Rattle.listing.specs.Walk.{OneStands, AllStand, SomeOne, SomeAll, ShowsOne, ShowsAll}

-- a run stays that ends where bytes are put, or before
lies_next : (w w1 : List ℕ) (lim to : ℕ) (xs : List ℕ) (r : ℕ) → Puts w lim to xs r w1 → (a e : ℕ) (ys : List ℕ) → e ≤ to → Lies w a ys e → Lies w1 a ys e
lies_next w w1 lim to xs r p a e [] h l = let z : e ≡ a = omega (arith, l.end) in record { is = ap (λ (i : ℕ). drop i w1) (sym z); end = l.end }
lies_next w w1 lim to xs r p a e (y ∷ ys) h l =
    lies_agree w w1 a e (y ∷ ys) p.long (lies_inside w a e (y ∷ ys) (omega arith) l) (λ i x z. puts_beside w w1 lim to xs r p i (inl (omega arith))) l

module _ {A : Type 0} (good : List Text → A → Type 0) (bytes : List Text → A → List ℕ) where
  module _ (s w : List ℕ) (m : Map) (wd lim to : ℕ) (g : Printable s w m wd lim to) (xs : List ℕ) (r : ℕ) (w1 : List ℕ) (p : Puts w lim to xs r w1) where
    same_texts : texts s w1 m ≡ texts s w m
    same_texts = between-texts s w m wd lim to g w1 (puts_between w lim to xs r w1 p)

    -- theorem: an element stays
    pub one_next : (at e : ℕ) (x : A) → e ≤ to → OneStands good bytes s w m at e x → OneStands good bytes s w1 m at e x
    one_next at e x h st =
        let z = same_texts in
        record { within = rw z st.within; lies = rw z (lies_next w w1 lim to xs r p at e (bytes (texts s w m) x) h st.lies) }

    -- theorem: and elements do
    pub all_next : (at e : ℕ) (ys : List A) → e ≤ to → AllStand good bytes s w m at e ys → AllStand good bytes s w1 m at e ys
    all_next at e ys h st =
        let z = same_texts in
        record { within = rw z st.within; lies = rw z (lies_next w w1 lim to xs r p at e (bytes_of_each (bytes (texts s w m)) ys) h st.lies) }

  -- the first of them, and the others
  record Parted (s w : List ℕ) (m : Map) (at e : ℕ) (y : A) (ys : List A) : Type 0 where
    mid : ℕ
    one : OneStands good bytes s w m at mid y
    rest : AllStand good bytes s w m mid e ys
    upto : mid ≤ e

  parted : (s w : List ℕ) (m : Map) (at e : ℕ) (y : A) (ys : List A) → AllStand good bytes s w m at e (y ∷ ys) → Parted s w m at e y ys
  unfolding bytes_of_each
  parted s w m at e y ys st =
      let l = lies_split w at e (bytes (texts s w m) y) (bytes_of_each (bytes (texts s w m)) ys) st.lies in
      record { mid = at + length (bytes (texts s w m) y); one = record { within = st.within.0; lies = l.0 }; rest = record { within = st.within.1; lies = l.1 }; upto = omega (arith, l.1.end) }

  module _ (shows : A → Text) (s w : List ℕ) (m : Map) (wd n at lim to : ℕ) where
    -- k of the elements xs are to come, from p on; the others are put
    pub record Onward (out : List ℕ) (e : ℕ) (xs : List A) (p k : ℕ) (put : List ℕ) : Type 0 where
      pub ys : List A
      pub many : length ys ≡ k
      pub stand : AllStand good bytes s out m p e ys
      pub same : put ++ bytes_of_each shows ys ≡ bytes_of_each shows xs

    pub record Going (out : List ℕ) (p k q : ℕ) : Type 0 where
      pub printable : Printable s out m wd lim q
      pub some : SomeAll good bytes s out m k p to
      pub on : to ≤ q
      pub put : List ℕ
      pub puts : Puts w lim to put q out
      pub each : (e : ℕ) (xs : List A) → length xs ≡ n → AllStand good bytes s w m at e xs → e ≤ to → Onward out e xs p k put

    pub going_start : Printable s w m wd lim to → SomeAll good bytes s w m n at to → Going w at n to
    going_start g h = record {
      printable = g;
      some = h;
      on = omega arith;
      put = [];
      puts = puts_none w lim to g.stop;
      each = λ e xs q z l. record { ys = xs; many = q; stand = z; same = refl };
    }

    module _ (out : List ℕ) (p k q : ℕ) (g : Going out p k q) where
      pub going_done : k ≤ 0 → ShowsAll good bytes s w m shows n at lim to (record { at = p; to = q }) out
      unfolding bytes_of_each
      going_done z = record { put = g.put; puts = g.puts; each = λ e xs c h l. go e xs (g.each e xs c h l) }
        where
          last : (e : ℕ) (xs ys : List A) → length ys ≡ k → AllStand good bytes s out m p e ys → g.put ++ bytes_of_each shows ys ≡ bytes_of_each shows xs → (p ≡ e) × (g.put ≡ bytes_of_each shows xs)
          last e xs [] c st t = (omega (arith, st.lies.end), sym (append-nil g.put) ∙ t)
          last e xs (y ∷ ys) c st t = absurd (omega arith)

          go : (e : ℕ) (xs : List A) → Onward out e xs p k g.put → (p ≡ e) × (g.put ≡ bytes_of_each shows xs)
          go e xs o = last e xs o.ys o.many o.stand o.same

      pub going_same : length out ≡ length w
      going_same = g.puts.long

      pub going_printable : Printable s out m wd lim q
      going_printable = g.printable

      module _ (some : 0 < k) where
        pub going_some : SomeOne good bytes s out m p q
        going_some = go g.some.elements g.some.many g.some.stand
          where
            go : (ys : List A) → length ys ≡ k → AllStand good bytes s out m p g.some.end ys → SomeOne good bytes s out m p q
            go [] c st = absurd (omega arith)
            go (y ∷ ys) c st = let a = parted s out m p g.some.end y ys st in record { end = a.mid; element = y; stands = a.one; below = omega (arith, a.upto, g.some.below, g.on) }

        module _ (z : Printed) (w1 : List ℕ) (shown : ShowsOne good bytes s out m shows p lim q z w1) where
          others_stay : (a e : ℕ) (ys : List A) → e ≤ to → AllStand good bytes s out m a e ys → AllStand good bytes s w1 m a e ys
          others_stay a e ys h st = all_next s out m wd lim q g.printable shown.put z.to w1 shown.puts a e ys (omega (arith, g.on)) st

          next-some : SomeAll good bytes s w1 m (k - 1) z.at to
          next-some = go g.some.elements g.some.many g.some.stand
            where
              go : (ys : List A) → length ys ≡ k → AllStand good bytes s out m p g.some.end ys → SomeAll good bytes s w1 m (k - 1) z.at to
              go [] c st = absurd (omega arith)
              go (y ∷ ys) c st =
                  let a = parted s out m p g.some.end y ys st in
                  let t = (shown.each a.mid y a.one (omega (arith, a.upto, g.some.below, g.on))).0 in
                  record { end = g.some.end; elements = ys; many = omega arith; stand = rw t (others_stay a.mid g.some.end ys g.some.below a.rest); below = g.some.below }

          next_each : (e : ℕ) (xs : List A) → e ≤ to → Onward out e xs p k g.put → Onward w1 e xs z.at (k - 1) (g.put ++ shown.put)
          unfolding bytes_of_each
          next_each e xs h v = go v.ys v.many v.stand v.same
            where
              go : (ys : List A) → length ys ≡ k → AllStand good bytes s out m p e ys → g.put ++ bytes_of_each shows ys ≡ bytes_of_each shows xs → Onward w1 e xs z.at (k - 1) (g.put ++ shown.put)
              go [] c st t = absurd (omega arith)
              go (y ∷ ys) c st t =
                  let a = parted s out m p e y ys st in
                  let u = shown.each a.mid y a.one (omega (arith, a.upto, g.on)) in
                  record {
                    ys = ys;
                    many = omega arith;
                    stand = rw u.0 (others_stay a.mid e ys h a.rest);
                    same = append_assoc g.put shown.put (bytes_of_each shows ys) ∙ ap (λ (x : Text). g.put ++ (x ++ bytes_of_each shows ys)) u.1 ∙ t;
                  }

          pub going_next : Going w1 z.at (k - 1) z.to
          going_next = record {
            printable = printable_next s out m wd lim q g.printable shown.put z.to w1 shown.puts;
            some = next-some;
            on = omega (arith, g.on, next_on s out m wd lim q g.printable shown.put z.to w1 shown.puts);
            put = g.put ++ shown.put;
            puts = then g.puts shown.puts;
            each = λ e xs c st h. next_each e xs h (g.each e xs c st h);
          }

          pub going_on : (j : ℕ) → k ≡ j + 1 → Going w1 z.at j z.to
          going_on j e =
              let o : k - 1 ≡ j = omega arith in
              subst (λ (v : ℕ). Going w1 z.at v z.to) o going_next

pub ruleset walking = (rules, going_start, going_done, going_same, going_printable, going_some, going_on)
