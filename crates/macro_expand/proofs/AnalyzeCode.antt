-- The loop of `analyze_expr`: what is left of the direct symbols. Assumes nothing.
use mathlib.Core.Path.{◌≡◌, refl, sym, ap, ◌∙◌, subst}
use mathlib.Core.Bool.{Bool, true, false, cond, ◌||◌}
use mathlib.Core.List.{List}
use Prim.Native.Nat.{ℕ, suc, ◌+◌, ◌-◌, ◌^◌, ◌<◌, ◌≤◌}
use native.Mathlib.Omega.{arith}
use mir.Syntax.{w64}
use mir.Val.{Fits, bool_byte}
use borrow.Author.Rules.{rules}
use borrow.Author.Tests.{eq-eqb, ne_eqb}
use lib.Dec.{eqb}
use lib.ListN.{length, get_or}
use Rattle.std.specs.Prelude.{Some, None}
use Rattle.octets.specs.Plain.Runs.{Lies}
use Rattle.octets.proofs.LiesLaws.{lies_first}
use Rattle.parse_tree.specs.Plain.Tree.{Text, Sym, Syms, ambiguous, bare, quoted, regex, nonterminal, lookahead, lookbehind, error, repeat, choose, name, macro, group, leaf, around, over, nil, cons, count}
use Rattle.parse_tree.specs.Working.Nodes.{node_bytes, symbol_bytes, leaf_code}
use Rattle.parse_tree.specs.Working.Encode.{sym_bytes, leaf_node, around_node, over_node}
use Rattle.texts.specs.Table.{texts}
use Rattle.passes.specs.Macros.{is_named, is_chosen, has_name, chosen}
use Rattle.laws.proofs.Flat.{sym_fits_lem}
use Rattle.grades.specs.Skip.{skip_out}
use Rattle.grades.proofs.SkipMean.{skip-means}
use Rattle.display.specs.Standing.{SymsStand}
use Rattle.display.proofs.StandsLaws.{standing, first_stands, one_stands}
use Rattle.expander.specs.declared.Ground.{Ground}
use Rattle.expander.specs.Ground.{size_in}
use Rattle.expander.specs.Replace.{StandAt}
use Rattle.macro_expand.specs.NormUtil.{SomeDirect, Analyzes}

at_most : (t : Bool) (j : ℕ) → j ≡ bool_byte t → j ≤ 1
at_most true j e = omega (arith, e)
at_most false j e = omega (arith, e)

-- ---- a symbol told by the code of its command: whether it has a name, and whether it is chosen
pub record Told (c : ℕ) (y : Sym) : Type 0 where
  pub named : c ≡ 40 → is_named y ≡ true
  pub other : (c ≡ 40 → ⊥) → is_named y ≡ false
  pub one : bool_byte (eqb c 39) ≡ cond (is_chosen y) 1 0

module _ (wd : ℕ) (ts : List Text) (w : List ℕ) (at e : ℕ) where
  neither : (y : Sym) (k : ℕ) → (k ≡ 39 → ⊥) → (k ≡ 40 → ⊥) → is_named y ≡ false → is_chosen y ≡ false → get_or w at 0 ≡ k → Told (get_or w at 0) y
  neither y k a b n m z = record {
    named = λ f. absurd (b (sym z ∙ f));
    other = λ f. n;
    one = let q = ne_eqb (get_or w at 0) 39 (λ f. a (sym z ∙ f)) in cc;
  }

  pub told : (y : Sym) → Lies w at (sym_bytes wd ts y) e → Told (get_or w at 0) y
  unfolding sym_bytes node_bytes symbol_bytes leaf_code leaf_node around_node over_node
  told (leaf s (ambiguous n)) l = neither (leaf s (ambiguous n)) 32 (λ f. omega (arith, f)) (λ f. omega (arith, f)) refl refl (lies_first w at 32 _ e l).1
  told (leaf s (bare n)) l = neither (leaf s (bare n)) 33 (λ f. omega (arith, f)) (λ f. omega (arith, f)) refl refl (lies_first w at 33 _ e l).1
  told (leaf s (quoted n)) l = neither (leaf s (quoted n)) 34 (λ f. omega (arith, f)) (λ f. omega (arith, f)) refl refl (lies_first w at 34 _ e l).1
  told (leaf s (regex n)) l = neither (leaf s (regex n)) 35 (λ f. omega (arith, f)) (λ f. omega (arith, f)) refl refl (lies_first w at 35 _ e l).1
  told (leaf s (nonterminal n)) l = neither (leaf s (nonterminal n)) 36 (λ f. omega (arith, f)) (λ f. omega (arith, f)) refl refl (lies_first w at 36 _ e l).1
  told (leaf s lookahead) l = neither (leaf s lookahead) 42 (λ f. omega (arith, f)) (λ f. omega (arith, f)) refl refl (lies_first w at 42 _ e l).1
  told (leaf s lookbehind) l = neither (leaf s lookbehind) 43 (λ f. omega (arith, f)) (λ f. omega (arith, f)) refl refl (lies_first w at 43 _ e l).1
  told (leaf s error) l = neither (leaf s error) 44 (λ f. omega (arith, f)) (λ f. omega (arith, f)) refl refl (lies_first w at 44 _ e l).1
  told (around s (repeat o) x) l = neither (around s (repeat o) x) 38 (λ f. omega (arith, f)) (λ f. omega (arith, f)) refl refl (lies_first w at 38 _ e l).1
  told (around s choose x) l =
      let z : get_or w at 0 ≡ 39 = (lies_first w at 39 _ e l).1 in
      record { named = λ f. absurd (omega (arith, z, f)); other = λ f. refl; one = let q = eq-eqb (get_or w at 0) 39 z in ap bool_byte q }
  told (around s (name m n) x) l =
      let z : get_or w at 0 ≡ 40 = (lies_first w at 40 _ e l).1 in
      record { named = λ f. refl; other = λ f. absurd (f z); one = let q = ne_eqb (get_or w at 0) 39 (λ f. omega (arith, z, f)) in ap bool_byte q }
  told (over s (macro m) xs) l = neither (over s (macro m) xs) 37 (λ f. omega (arith, f)) (λ f. omega (arith, f)) refl refl (lies_first w at 37 _ e l).1
  told (over s group xs) l = neither (over s group xs) 41 (λ f. omega (arith, f)) (λ f. omega (arith, f)) refl refl (lies_first w at 41 _ e l).1

-- ---- the loop: i symbols are left from `at` on, and c were chosen before
module _ (s w : List ℕ) (g : Ground) (p k : ℕ) where
  pub record Rest (at i c : ℕ) (four : Bool) (left e : ℕ) (ys : Syms) : Type 0 where
    pub rest : Syms
    pub many : count rest ≡ i
    pub stand : SymsStand s w g.m g.width.bytes four left at (g.from + e) rest
    pub named : has_name ys ≡ has_name rest
    pub chosen-are : chosen ys ≡ c + chosen rest

  pub record Analyzing (at i c : ℕ) : Type 0 where
    pub some : SomeDirect s w g p k
    pub few : c + i ≤ k
    pub each : (four : Bool) (left e : ℕ) (ys : Syms) → count ys ≡ k → StandAt s w g four left p e ys → e ≤ size_in g → Rest at i c four left e ys

  pub analyzing_start : SomeDirect s w g p k → Analyzing (g.from + p) k 0
  analyzing_start h = record {
    some = h;
    few = omega arith;
    each = λ four left e ys m t i. record { rest = ys; many = m; stand = t; named = refl; chosen-are = omega arith };
  }

  pub start_fits : SomeDirect s w g p k → length w < 2 ^ 64 → Fits w64 (g.from + p)
  unfolding size_in
  start_fits h z = record { fits = omega (arith, h.stand.lies.end, h.inside, h.ground.ordered, h.ground.inside) }

  module _ (at i c : ℕ) (A : Analyzing at i c) where
    abbrev h : SomeDirect s w g p k
    h = A.some

    abbrev one : Rest at i c h.four h.left h.end h.symbols
    one = A.each h.four h.left h.end h.symbols h.many h.stand h.inside

    -- ---- one more
    module _ (z : 0 < i) where
      pub record First (four : Bool) (left e : ℕ) (ys : Syms) : Type 0 where
        pub first : Sym
        pub others : Syms
        pub many : count others ≡ i - 1
        pub told_is : Told (get_or w at 0) first
        pub behind : skip_out g.width.bytes g.end w at g.end 1 ≡ at + length (sym_bytes g.width.bytes (texts s w g.m) first)
        pub inside : at < length w
        pub stand : SymsStand s w g.m g.width.bytes four left (at + length (sym_bytes g.width.bytes (texts s w g.m) first)) (g.from + e) others
        pub named : has_name ys ≡ (is_named first || has_name others)
        pub chosen-are : chosen ys ≡ c + cond (is_chosen first) (suc (chosen others)) (chosen others)

      first_left : (four : Bool) (left e : ℕ) (ys : Syms) → e ≤ size_in g → Rest at i c four left e ys → First four left e ys
      unfolding count size_in
      first_left four left e ys b r = go r.rest r.many r.stand r.named r.chosen-are
        where
          go : (zs : Syms) → count zs ≡ i → SymsStand s w g.m g.width.bytes four left at (g.from + e) zs → has_name ys ≡ has_name zs → chosen ys ≡ c + chosen zs → First four left e ys
          go nil m t n q = absurd (omega (arith, m))
          go (cons y zs) m t n q =
              let (a, f) = first_stands s w g.m g.width.bytes four left at (g.from + e) y zs t in
              let u = one_stands s w g.m g.width.bytes four left at (at + length (sym_bytes g.width.bytes (texts s w g.m) y)) y a in
              record {
                first = y;
                others = zs;
                many = omega (arith, m);
                told_is = told g.width.bytes (texts s w g.m) w at (at + length (sym_bytes g.width.bytes (texts s w g.m) y)) y a.lies;
                behind = skip-means g.width.bytes (texts s w g.m) (cons y nil) (sym_fits_lem g.width.bytes (texts s w g.m) four y left a.within, tt) w at (at + length (sym_bytes g.width.bytes (texts s w g.m) y)) g.end
                    (omega (arith, f.lies.end, h.ground.ordered)) u.lies;
                inside = (standing s w g.m g.width.bytes four left at (at + length (sym_bytes g.width.bytes (texts s w g.m) y)) y a).within;
                stand = f;
                named = n;
                chosen-are = q;
              }

      pub analyzing_inside : at < length w
      analyzing_inside = (first_left h.four h.left h.end h.symbols h.inside one).inside

      -- it has a name
      pub analyzing_named : get_or w at 0 ≡ 40 → Analyzes s w g p k None
      unfolding Analyzes
      analyzing_named e four left d ys m t b =
          let f = first_left four left d ys b (A.each four left d ys m t b) in
          let q : has_name ys ≡ true = f.named ∙ ap (λ (x : Bool). x || has_name f.others) (f.told_is.named e) in
          ap (λ (x : Bool). cond x None (Some (chosen ys))) (sym q)

      -- it has none
      pub analyzing_next : (get_or w at 0 ≡ 40 → ⊥) → (j : ℕ) → j ≡ bool_byte (eqb (get_or w at 0) 39) → (r : ℕ) → r ≡ skip_out g.width.bytes g.end w at g.end 1 → Analyzing r (i - 1) (c + j)
      analyzing_next o j u r q = record {
        some = h;
        few = omega (arith, A.few, at_most (eqb (get_or w at 0) 39) j u);
        each = λ four left d ys m t b. next four left d ys (first_left four left d ys b (A.each four left d ys m t b));
      }
        where
          sums : (x : Bool) (n : ℕ) → c + cond x (suc n) n ≡ c + cond x 1 0 + n
          sums true n = omega arith
          sums false n = omega arith

          next : (four : Bool) (left d : ℕ) (ys : Syms) → First four left d ys → Rest r (i - 1) (c + j) four left d ys
          next four left d ys f = record {
            rest = f.others;
            many = f.many;
            stand = subst (λ (x : ℕ). SymsStand s w g.m g.width.bytes four left x (g.from + d) f.others) (sym (q ∙ f.behind)) f.stand;
            named = f.named ∙ ap (λ (x : Bool). x || has_name f.others) (f.told_is.other o);
            chosen-are = f.chosen-are ∙ sums (is_chosen f.first) (chosen f.others) ∙ ap (λ (x : ℕ). c + x + chosen f.others) (sym (u ∙ f.told_is.one));
          }

      pub analyzing_fits : (t : Bool) (j : ℕ) → j ≡ bool_byte t → k < 2 ^ 64 → Fits w64 (c + j)
      analyzing_fits t j v b = record { fits = omega (arith, A.few, at_most t j v) }

    -- ---- none is left
    pub analyzing_done : i ≤ 0 → Analyzes s w g p k (Some c)
    unfolding Analyzes count
    analyzing_done z four left d ys m t b = go (A.each four left d ys m t b)
      where
        none : (zs : Syms) → count zs ≡ i → (has_name zs ≡ false) × (chosen zs ≡ 0)
        none nil e = (refl, refl)
        none (cons x xs) e = absurd (omega (arith, e))

        go : Rest at i c four left d ys → Some c ≡ cond (has_name ys) None (Some (chosen ys))
        go r =
            let (a, e) = none r.rest r.many in
            let f : c ≡ chosen ys = omega (arith, r.chosen-are, e) in
            ap Some f ∙ ap (λ (x : Bool). cond x None (Some (chosen ys))) (sym (r.named ∙ a))

    pub analyzing_behind : g.end + 16 ≤ length w
    analyzing_behind = h.behind

pub ruleset analyzing = (rules, analyzing_start, start_fits, analyzing_inside, analyzing_named, analyzing_next, analyzing_fits, analyzing_done, analyzing_behind)
