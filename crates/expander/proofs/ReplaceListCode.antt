-- The code that meets symbols one behind another: the loop of replace_symbols. Assumes nothing.
use mathlib.Core.Path.{◌≡◌, refl, sym, ap, ◌∙◌, subst}
use mathlib.Core.Bool.{Bool}
use mathlib.Core.List.{List, [], ◌++◌, append_assoc}
use Prim.Native.Nat.{ℕ, ◌+◌, ◌-◌, ◌*◌, ◌<◌, ◌≤◌}
use native.Mathlib.Omega.{arith}
use borrow.Author.Rules.{rules}
use lib.ListN.{length}
use Rattle.octets.specs.Working.Choice.{pick}
use Rattle.parse_tree.specs.Plain.Tree.{Text, Sym, Syms, nil, cons, count}
use Rattle.parse_tree.specs.Plain.Display.{shown, shown_all, shown_more, print}
use Rattle.parse_tree.specs.Working.Encode.{sym_bytes}
use Rattle.parse_tree.proofs.DisplayLaws.{print-then}
use Rattle.texts.specs.Table.{texts}
use Rattle.display.specs.declared.form.Form.{Form}
use Rattle.display.specs.Follow.{between_by}
use Rattle.display.specs.Form.{text_form, join_of, form_from, From}
use Rattle.display.proofs.FormLaws.{from-append, from_then, from_join, Narrow, from_narrow, join_narrow}
use Rattle.display.proofs.StandsLaws.{first_stands, none_stand, more}
use Rattle.expander.specs.declared.Ground.{Ground}
use Rattle.expander.specs.declared.replace.Formed.{Formed}
use Rattle.expander.specs.Ground.{size_in, Grounded, KeptAround}
use Rattle.expander.specs.Replace.{keys_of, keys_of_all, StandsAt, StandAt, HeldBefore, SomeSymbol, SomeSymbols, NotedAll, ReplacesOne, ReplacesAll}
use Rattle.display.proofs.FollowCode.{shown_from, shown_none, shown_later, shown_first}
use Rattle.expander.proofs.KeysLaws.{keys_spread}
use Rattle.expander.proofs.ReplaceLaws.{kept-grounded, kept-texts, kept-stand, noted_none, noted_then, held-behind}

-- theorem: a form with a separator and a printed form joined goes on as with the symbol more
join_more : (c d : ℕ) (x : Sym) (xs : Syms) (f h j : Form) → From f (between_by c d) h → Narrow h → j ≡ join_of h (text_form (print x))
    → form_from f (shown_from d (cons x xs) (between_by c 1) []) ≡ form_from j (shown_from (d + 1) xs (between_by c 1) [])
join_more c d x xs f h j a g e =
    let r = shown_more xs (between_by c 1) [] in
    let b : From f (between_by c d ++ print x) j = from_then a (from_join h (print x) j g.hash g.power e) in
    let z : between_by c d ++ shown x (shown_more xs (between_by c 1) []) ≡ (between_by c d ++ print x) ++ shown_more xs (between_by c 1) [] =
    ap (λ (y : Text). between_by c d ++ y) (sym (print-then x r)) ∙ sym (append_assoc (between_by c d) (print x) r) in
    ap (form_from f) (sym (shown_first c d x xs (between_by c 1) [] (λ i. more c i ∙ sym (more c 0))) ∙ z) ∙ from-append f (between_by c d ++ print x) r ∙ ap (λ (y : Form). form_from y r) (sym b.is) ∙ ap (form_from j) (sym (shown_later d xs (between_by c 1) []))

-- ---- the first of symbols that stand in the items, and the others
record Firsts (s w : List ℕ) (g : Ground) (four : Bool) (left p e : ℕ) (y : Sym) (ys : Syms) : Type 0 where
  pub end : ℕ
  pub is : end ≡ p + length (sym_bytes g.width.bytes (texts s w g.m) y)
  pub stands : StandsAt s w g four left p end y
  pub others : StandAt s w g four left end e ys
  pub before : end ≤ e

firsts : (s w : List ℕ) (g : Ground) (four : Bool) (left p e : ℕ) (y : Sym) (ys : Syms) → StandAt s w g four left p e (cons y ys) → Firsts s w g four left p e y ys
firsts s w g four left p e y ys h =
    let a = first_stands s w g.m g.width.bytes four left (g.from + p) (g.from + e) y ys h in
    let n = length (sym_bytes g.width.bytes (texts s w g.m) y) in
    let z : g.from + (p + length (sym_bytes g.width.bytes (texts s w g.m) y)) ≡ g.from + p + length (sym_bytes g.width.bytes (texts s w g.m) y) = omega arith in
    record { end = p + n; is = refl; stands = rw z a.0; others = rw z a.1; before = omega (arith, a.1.lies.end) }

-- ---- w₀ is work before; of k symbols from p on, i are to come from q.at on; d of them were met
module _ (s w₀ : List ℕ) (g : Ground) (left p k c n : ℕ) (f : Form) where
  -- of the symbols xs
  pub record Onward (w : List ℕ) (q : Formed) (d i : ℕ) (four : Bool) (e : ℕ) (xs : Syms) : Type 0 where
    pub ys : Syms
    pub many : count ys ≡ i
    pub stand : StandAt s w g four left q.at e ys
    pub same : form_from f (shown_all xs (between_by c 1) []) ≡ form_from q.form (shown_from d ys (between_by c 1) [])
    pub carry : (r : Formed) (w' : List ℕ) → NotedAll s w g q.at q.pile e (keys_of_all g.width.bytes (texts s w g.m) ys q.at) r w' → NotedAll s w₀ g p n e (keys_of_all g.width.bytes (texts s w₀ g.m) xs p) r w'

  pub record Replacing (w : List ℕ) (q : Formed) (d i : ℕ) : Type 0 where
    pub ground : Grounded s w g
    pub some : SomeSymbols s w g i left q.at q.pile
    pub form : Narrow q.form
    pub long : length w ≡ length w₀
    pub each : (four : Bool) (e : ℕ) (xs : Syms) → count xs ≡ k → StandAt s w₀ g four left p e xs → e ≤ size_in g → Onward w q d i four e xs

  pub replacing_start : Grounded s w₀ g → SomeSymbols s w₀ g k left p n → f.hash < 4294967296 → f.power < 4294967296 → Replacing w₀ (record { at = p; form = f; pile = n }) 0 (k - 0)
  unfolding shown_from pick
  replacing_start G S a b =
      let z : k - 0 ≡ k = omega arith in
      rw z (record {
        ground = G;
        some = S;
        form = record { hash = a; power = b };
        long = refl;
        each = λ four e xs m h i. record { ys = xs; many = m; stand = h; same = refl; carry = λ r w' x. x };
      })

  module _ (w : List ℕ) (q : Formed) (d : ℕ) (inv : Replacing w q d (k - d)) where
    abbrev i : ℕ
    i = k - d

    pub replacing_done : k ≤ d → ReplacesAll s w₀ g k left p c f n q w
    unfolding ReplacesAll count keys_of_all form_from
    replacing_done z four e xs m h l = go (inv.each four e xs m h l)
      where
        last : (ys : Syms) → count ys ≡ i → StandAt s w g four left q.at e ys → form_from f (shown_all xs (between_by c 1) []) ≡ form_from q.form (shown_from d ys (between_by c 1) [])
            → ((r : Formed) (w' : List ℕ) → NotedAll s w g q.at q.pile e (keys_of_all g.width.bytes (texts s w g.m) ys q.at) r w' → NotedAll s w₀ g p n e (keys_of_all g.width.bytes (texts s w₀ g.m) xs p) r w')
            → NotedAll s w₀ g p n e (keys_of_all g.width.bytes (texts s w₀ g.m) xs p) q w × (q.form ≡ form_from f (shown_all xs (between_by c 1) []))
        last nil j st t u =
            let v = none_stand s w g.m g.width.bytes four left (g.from + q.at) (g.from + e) st in
            let v0 : q.at ≡ e = omega arith in
            (u q w (noted_none s w g q.at q.pile e q v0 refl v0), sym (t ∙ ap (form_from q.form) (shown_none d (between_by c 1) [])))
        last (cons y ys) j st t u = absurd (omega arith)

        go : Onward w q d i four e xs → NotedAll s w₀ g p n e (keys_of_all g.width.bytes (texts s w₀ g.m) xs p) q w × (q.form ≡ form_from f (shown_all xs (between_by c 1) []))
        go o = last o.ys o.many o.stand o.same o.carry

    module _ (positive : d < k) where
      -- the nesting left falls
      pub replacing_falls : (t : ℕ) → 2 * left + 1 ≡ t → 2 * left < t
      replacing_falls t e = omega arith

      -- the next of them can be met
      pub replacing_first : SomeSymbol s w g left q.at q.pile
      unfolding count
      replacing_first = go inv.some.symbols inv.some.many inv.some.stand
        where
          go : (ys : Syms) → count ys ≡ i → StandAt s w g inv.some.four left q.at inv.some.end ys → SomeSymbol s w g left q.at q.pile
          go nil j st = absurd (omega arith)
          go (cons y ys) j st =
              let a = firsts s w g inv.some.four left q.at inv.some.end y ys st in
              record { four = inv.some.four; end = a.end; symbol = y; levels = inv.some.levels; stands = a.stands; inside = omega (arith, a.before, inv.some.inside); held = inv.some.held }

      module _ (x : Formed) (v : List ℕ) (one : ReplacesOne s w g left q.at q.pile x v) where
        -- what was met
        met : (four : Bool) (e : ℕ) (y : Sym) → StandsAt s w g four left q.at e y → e ≤ size_in g → NotedAll s w g q.at q.pile e (keys_of g.width.bytes (texts s w g.m) y q.at) x v × (x.form ≡ text_form (print y))
        unfolding ReplacesOne
        met four e y st l = one four e y st l

        first-kept : KeptAround g w v
        first-kept = let o = replacing_first in (met o.four o.end o.symbol o.stands o.inside).0.kept

        next_ground : Grounded s v g
        next_ground = kept-grounded s w v g inv.ground first-kept

        next-some : SomeSymbols s v g (k - (d + 1)) left x.at x.pile
        unfolding count
        next-some = go inv.some.symbols inv.some.many inv.some.stand
          where
            go : (ys : Syms) → count ys ≡ i → StandAt s w g inv.some.four left q.at inv.some.end ys → SomeSymbols s v g (k - (d + 1)) left x.at x.pile
            go nil j st = absurd (omega arith)
            go (cons y ys) j st =
                let a = firsts s w g inv.some.four left q.at inv.some.end y ys st in
                let l : a.end ≤ size_in g = omega (arith, a.before, inv.some.inside) in
                let m = (met inv.some.four a.end y a.stands l).0 in
                let z : a.end ≡ x.at = sym m.end in
                let sp = keys_spread g.width.bytes (texts s w g.m) y q.at a.end (omega (arith, a.is)) in
                record {
                  four = inv.some.four;
                  end = inv.some.end;
                  symbols = ys;
                  levels = inv.some.levels;
                  many = omega arith;
                  stand = subst (λ (o : ℕ). StandAt s v g inv.some.four left o inv.some.end ys) z (kept-stand s w v g inv.ground first-kept inv.some.four left a.end inv.some.end ys inv.some.inside a.others);
                  inside = inv.some.inside;
                  held = subst (λ (o : ℕ). HeldBefore s v g o x.pile) z (held-behind s w g inv.ground v q.at a.end q.pile (keys_of g.width.bytes (texts s w g.m) y q.at) x (omega (arith, a.is)) sp inv.some.held m);
                }

        module _ (h j : Form) (between : From q.form (between_by c d) h) (joined : j ≡ join_of h x.form) where
          next_form : Narrow j
          next_form = join_narrow h x.form j joined

          next_each : (four : Bool) (e : ℕ) (xs : Syms) → e ≤ size_in g → Onward w q d i four e xs → Onward v (record { at = x.at; form = j; pile = x.pile }) (d + 1) (k - (d + 1)) four e xs
          unfolding count keys_of_all
          next_each four e xs l o = go o.ys o.many o.stand o.same o.carry
            where
              go : (ys : Syms) → count ys ≡ i → StandAt s w g four left q.at e ys → form_from f (shown_all xs (between_by c 1) []) ≡ form_from q.form (shown_from d ys (between_by c 1) [])
                  → ((r : Formed) (w' : List ℕ) → NotedAll s w g q.at q.pile e (keys_of_all g.width.bytes (texts s w g.m) ys q.at) r w' → NotedAll s w₀ g p n e (keys_of_all g.width.bytes (texts s w₀ g.m) xs p) r w')
                  → Onward v (record { at = x.at; form = j; pile = x.pile }) (d + 1) (k - (d + 1)) four e xs
              go nil t st u y = absurd (omega arith)
              go (cons y ys) t st u rest =
                  let a = firsts s w g four left q.at e y ys st in
                  let b : a.end ≤ size_in g = omega (arith, a.before) in
                  let m = met four a.end y a.stands b in
                  let z : a.end ≡ x.at = sym m.0.end in
                  let sp = keys_spread g.width.bytes (texts s w g.m) y q.at a.end (omega (arith, a.is)) in
                  record {
                    ys = ys;
                    many = omega arith;
                    stand = subst (λ (o : ℕ). StandAt s v g four left o e ys) z (kept-stand s w v g inv.ground first-kept four left a.end e ys l a.others);
                    same = u ∙ join_more c d y ys q.form h j between (from_narrow q.form h (between_by c d) inv.form between) (joined ∙ ap (join_of h) m.1);
                    carry = λ r w' N. rest r w'
                        (subst (λ (o : ℕ). NotedAll s w g q.at q.pile e (keys_of g.width.bytes (texts s w g.m) y q.at ++ keys_of_all g.width.bytes (texts s w g.m) ys o) r w') a.is
                        (noted_then s w g inv.ground v w' q.at q.pile a.end e (keys_of g.width.bytes (texts s w g.m) y q.at) (keys_of_all g.width.bytes (texts s w g.m) ys a.end) x r (omega (arith, a.is)) sp m.0
                        (subst (λ (o : ℕ). NotedAll s v g o x.pile e (keys_of_all g.width.bytes (texts s w g.m) ys o) r w') (sym z)
                        (subst (λ (ts : List Text). NotedAll s v g x.at x.pile e (keys_of_all g.width.bytes ts ys x.at) r w') (kept-texts s w v g inv.ground first-kept) N))));
                  }

          -- theorem: one turn
          pub replacing_next : Replacing v (record { at = x.at; form = j; pile = x.pile }) (d + 1) (k - (d + 1))
          replacing_next = record {
            ground = next_ground;
            some = next-some;
            form = next_form;
            long = first-kept.long ∙ inv.long;
            each = λ four e xs m st l. next_each four e xs l (inv.each four e xs m st l);
          }

pub ruleset looping = (rules, replacing_start, replacing_done, replacing_falls, replacing_first, replacing_next)
