-- Laws of `is_item`, `is_macro` and `next_item`. Assumes nothing.
use mathlib.Core.Path.{◌≡◌, refl, sym, ap, ◌∙◌}
use mathlib.Core.Bool.{Bool, true, false, false≢true}
use mathlib.Core.Logic.{inl, inr}
use mathlib.Core.List.{List}
use Prim.Native.Nat.{ℕ, zero, suc, ◌+◌, ◌-◌, ◌^◌, ◌<◌, ◌≤◌}
use native.Mathlib.Omega.{arith}
use mir.Syntax.{w64}
use mir.Val.{Fits}
use borrow.Author.Rules.{rules}
use borrow.Author.Tests.{ne_eqb, eqb-true, eqb-false, lt-leb, le-leb}
use lib.Dec.{eqb, ltb}
use lib.ListN.{length, get_or, drop}
use lib.Seq.{get_or-take, get_or-drop}
use Rattle.octets.specs.Working.Choice.{pick}
use Rattle.octets.specs.Plain.Runs.{part}
use Rattle.parse_tree.specs.Working.Nodes.{code_size, node_at, size_read, nonterminal_here}
use Rattle.parse_tree.specs.declared.syntax.NonterminalData.{NonterminalData}
use Rattle.parse_tree.proofs.CodeSizes.{size_16}
use Rattle.replacing.specs.Runs.{is_item, hop, hops}
use Rattle.expander.specs.declared.Ground.{Ground}
use Rattle.expander.specs.Ground.{size_in, stage_in, Grounded}
use Rattle.expander.specs.Stage.{item_code, macro_at, WholeAt, Hopping, SomeHops, Skips}
use Rattle.expander.proofs.StageReads.{stage_length}
use Rattle.expander.proofs.KnownCodes.{whole_long, whole_item, item_code_lem}

-- ---- `is_item`
module _ (c : ℕ) where
  item_not : (c ≡ 16 → ⊥) → (c ≡ 48 → ⊥) → (c ≡ 49 → ⊥) → false ≡ item_code c
  unfolding item_code pick
  item_not a b d = cc (ne_eqb c 16 a, ne_eqb c 48 b, ne_eqb c 49 d)

  pub item_first : c ≡ 16 → true ≡ item_code c
  unfolding item_code pick
  item_first e = rw e refl

  pub item_second : 48 ≤ c → c ≤ 49 → true ≡ item_code c
  unfolding item_code pick
  item_second h k = go (eqb c 48) refl
    where
      go : (b : Bool) → eqb c 48 ≡ b → true ≡ item_code c
      go true e = let z = eqb-true c 48 e in rw z refl
      go false e = let n = eqb-false c 48 e in let z : c ≡ 49 = omega arith in rw z refl

  pub item_between : (c ≡ 16 → ⊥) → c < 48 → false ≡ item_code c
  item_between h k = item_not h (λ z. absurd (omega arith)) (λ z. absurd (omega arith))

  pub item_above : (c ≡ 16 → ⊥) → 49 < c → false ≡ item_code c
  item_above h k = item_not h (λ z. absurd (omega arith)) (λ z. absurd (omega arith))

pub ruleset beginning = (rules, item_first, item_second, item_between, item_above)

-- ---- `is_macro`
module _ (wd : ℕ) (w : List ℕ) (at c : ℕ) where
  pub macro_room : c ≡ 16 → at + code_size wd c ≤ length w → at + (13 + wd) ≤ length w
  macro_room e h = let z = size_16 wd c e in omega arith

  pub macro_is : (d : NonterminalData) → c ≡ 16 → d ≡ nonterminal_here wd w at → ltb 0 d.args ≡ macro_at wd w at c
  unfolding macro_at pick
  macro_is d e h = let z : d.args ≡ get_or w (at + 10 + wd) 0 = ap (λ (n : NonterminalData). n.args) h in cc

  pub macro_not : (c ≡ 16 → ⊥) → false ≡ macro_at wd w at c
  unfolding macro_at pick
  macro_not e = cc (ne_eqb c 16 e)

pub ruleset defining = (rules, macro_room, macro_is, macro_not)

-- ---- a byte of the stage
module _ (s w : List ℕ) (g : Ground) (G : Grounded s w g) (p : ℕ) (l : p < size_in g) where
  pub stage_room : g.from + p < length w
  unfolding size_in
  stage_room = omega (arith, G.inside)

  pub stage_byte : get_or (stage_in w g) p 0 ≡ get_or w (g.from + p) 0
  unfolding stage_in size_in part
  stage_byte = get_or-take (g.end - g.from) (drop g.from w) p 0 l ∙ get_or-drop g.from w p 0

  pub stage_in_lem : p < length (stage_in w g)
  stage_in_lem = rw (stage_length s w g G) l

-- ---- hops
module _ (wd : ℕ) (t : List ℕ) where
  hops-stay : (n q : ℕ) → hop wd t q ≡ q → hops wd t n q ≡ q
  unfolding hops
  hops-stay zero q h = refl
  hops-stay (suc n) q h = ap (hops wd t n) h ∙ hops-stay n q h

  stay_end : (q : ℕ) → length t ≤ q → hop wd t q ≡ q
  unfolding hop pick
  stay_end q l = rw (le-leb (length t) q l) refl

  stay_item : (q : ℕ) → q < length t → is_item (node_at wd t q) ≡ true → hop wd t q ≡ q
  unfolding hop pick
  stay_item q l i = cc (lt-leb (length t) q l)

  hop-on : (q : ℕ) → q < length t → is_item (node_at wd t q) ≡ false → hop wd t q ≡ q + size_read wd (node_at wd t q)
  unfolding hop pick
  hop-on q l i = cc (lt-leb (length t) q l)

  -- one of the hops that are left
  hops-next : (n m q : ℕ) → n ≡ suc m → hops wd t n q ≡ hops wd t m (hop wd t q)
  unfolding hops
  hops-next n m q e = ap (λ (k : ℕ). hops wd t k q) e

  -- what the test of the code decides
  record Turning (q : ℕ) (b : Bool) : Type 0 where
    pub item : b ≡ true → is_item (node_at wd t q) ≡ true
    pub on : b ≡ false → is_item (node_at wd t q) ≡ false
    pub whole : b ≡ false → WholeAt wd t q
    pub many : b ≡ false → ℕ
    pub hopping : (e : b ≡ false) → Hopping wd t (many e) (q + size_read wd (node_at wd t q))

  item_turning : (q : ℕ) (b : Bool) → b ≡ item_code (get_or t q 0) → is_item (node_at wd t q) ≡ true → Turning q b
  item_turning q b e i =
      let z = e ∙ item_code_lem wd t q i in
      record { item = λ _. i; on = λ f. absurd (false≢true (sym f ∙ z)); whole = λ f. absurd (false≢true (sym f ∙ z)); many = λ f. 0; hopping = λ f. absurd (false≢true (sym f ∙ z)) }

  turning : (n q : ℕ) (b : Bool) → Hopping wd t n q → q < length t → b ≡ item_code (get_or t q 0) → Turning q b
  unfolding Hopping
  turning zero q b (inl h) l e = absurd (omega arith)
  turning zero q b (inr h) l e = item_turning q b e h
  turning (suc n) q b (inl h) l e = absurd (omega arith)
  turning (suc n) q b (inr (inl h)) l e = item_turning q b e h
  turning (suc n) q b (inr (inr (i, a, h))) l e =
      let z = e ∙ sym (whole_item wd t q a) ∙ i in
      record { item = λ f. absurd (false≢true (sym z ∙ f)); on = λ _. i; whole = λ _. a; many = λ _. n; hopping = λ _. h }

-- ---- `next_item`: some hops were done, so many are left
pub record Hunting (w : List ℕ) (g : Ground) (p q : ℕ) : Type 0 where
  pub many : ℕ
  pub hopping : Hopping g.width.bytes (stage_in w g) many q
  pub upto : q ≤ size_in g
  pub done : ℕ
  pub few : done + p ≤ q
  pub is : hops g.width.bytes (stage_in w g) (length (stage_in w g) - done) q ≡ hops g.width.bytes (stage_in w g) (length (stage_in w g)) p

pub hunt_start : (w : List ℕ) (g : Ground) (p : ℕ) → SomeHops w g p → Hunting w g p p
hunt_start w g p h = record {
  many = h.many;
  hopping = h.hopping;
  upto = h.inside;
  done = 0;
  few = omega arith;
  is = ap (λ (k : ℕ). hops g.width.bytes (stage_in w g) k p) (let z : length (stage_in w g) - 0 ≡ length (stage_in w g) = omega arith in z);
}

module _ (s w : List ℕ) (g : Ground) (p q : ℕ) (G : Grounded s w g) (h : Hunting w g p q) where
  pub hunt_end : g.end - g.from ≤ q → Skips w g p q
  unfolding size_in
  hunt_end l = record {
    is = sym (hops-stay g.width.bytes (stage_in w g) (length (stage_in w g) - h.done) q (stay_end g.width.bytes (stage_in w g) q (omega (arith, stage_length s w g G)))) ∙ h.is;
    from = omega (arith, h.few);
    upto = h.upto;
  }

  module _ (l : q < g.end - g.from) where
    below : q < size_in g
    unfolding size_in
    below = l

    pub hunt_room : g.from + q < length w
    hunt_room = stage_room s w g G q below

    pub hunt_fits : length w < 2 ^ 64 → Fits w64 (g.from + q)
    hunt_fits k = record { fits = omega (arith, hunt_room) }

    module _ (c : ℕ) (d : c ≡ get_or w (g.from + q) 0) (b : Bool) (e : b ≡ item_code c) where
      turn : Turning g.width.bytes (stage_in w g) q b
      turn = turning g.width.bytes (stage_in w g) h.many q b h.hopping (stage_in_lem s w g G q below) (e ∙ ap item_code (d ∙ sym (stage_byte s w g G q below)))

      pub hunt_item : b ≡ true → Skips w g p q
      hunt_item f = record {
        is = sym (hops-stay g.width.bytes (stage_in w g) (length (stage_in w g) - h.done) q (stay_item g.width.bytes (stage_in w g) q (stage_in_lem s w g G q below) (turn.item f))) ∙ h.is;
        from = omega (arith, h.few);
        upto = h.upto;
      }

      module _ (f : b ≡ false) (n : ℕ) (k : n ≡ code_size g.width.bytes c) where
        size_is : n ≡ size_read g.width.bytes (node_at g.width.bytes (stage_in w g) q)
        size_is = k ∙ ap (code_size g.width.bytes) (d ∙ sym (stage_byte s w g G q below)) ∙ sym (whole_long g.width.bytes (stage_in w g) q (turn.whole f))

        inside : q + n ≤ size_in g
        inside = omega (arith, (turn.whole f).inside, size_is, stage_length s w g G)

        pub hunt_on_fits : length w < 2 ^ 64 → Fits w64 (q + n)
        unfolding size_in
        hunt_on_fits z = record { fits = omega (arith, inside, G.inside) }

        pub hunt_next : 0 < n → Hunting w g p (q + n)
        hunt_next z = rw size_is (record {
          many = turn.many f;
          hopping = turn.hopping f;
          upto = rw (← size_is) inside;
          done = h.done + 1;
          few = omega (arith, h.few, (turn.whole f).some);
          is =
              ap (hops g.width.bytes (stage_in w g) (length (stage_in w g) - (h.done + 1))) (sym (hop-on g.width.bytes (stage_in w g) q (stage_in_lem s w g G q below) (turn.on f)))
              ∙ sym (hops-next g.width.bytes (stage_in w g) (length (stage_in w g) - h.done) (length (stage_in w g) - (h.done + 1)) q (omega (arith, h.few, stage_in_lem s w g G q below)))
              ∙ h.is;
        })

pub ruleset hunting = (rules, hunt_start, hunt_end, hunt_room, hunt_fits, hunt_item, hunt_on_fits, hunt_next)
