-- Laws of pieces that are appended: one behind another, and what one function appends. Assumes nothing.
use mathlib.Core.Path.{◌≡◌, refl, sym, ap, ◌∙◌, subst}
use mathlib.Core.Bool.{Bool, true, false, ◌&&◌, ◌||◌, not}
use mathlib.Core.Logic.{◌⊎◌, inl, inr}
use mathlib.Core.List.{List, [], ◌++◌}
use Prim.Native.Nat.{ℕ, ◌+◌, ◌≤◌, ◌<◌}
use native.Mathlib.Omega.{arith}
use lib.ListN.{length, length-append}
use Rattle.octets.specs.Plain.Runs.{Lies}
use Rattle.octets.proofs.LiesLaws.{lies_none, lies_append}
use Rattle.octets.proofs.StoreLaws.{lies_store}
use Rattle.parse_tree.specs.Plain.Tree.{Text, Syms, Item}
use Rattle.parse_tree.specs.Plain.Texts.{has, with_new}
use Rattle.parse_tree.specs.Working.Within.{Each}
use Rattle.texts.specs.Table.{Agree}
use Rattle.texts.proofs.TableStays.{above_stays}
use Rattle.resolve.proofs.CellsLaws.{lies_agree}
use Rattle.precedence.specs.Write.{Puts}
use Rattle.precedence.proofs.WriteLaws.{fits_or_not, puts_beside, puts_on, puts_upto}
use Rattle.replacing.proofs.Growing.{Extends, new_append, new_extends}
use Rattle.replacing.proofs.ThereBytes.{there_parts, new_all, syms_known, there_bytes}
use Rattle.expander.specs.declared.Ground.{Ground}
use Rattle.expander.specs.declared.slots.Numbered.{Numbered}
use Rattle.expander.specs.Ground.{top_of, list_place}
use Rattle.expander.specs.Names.{named_in}
use Rattle.expander.proofs.GroundLaws.{table-around, grounded_around, list_keys, keys_slots, slots_top}
use Rattle.expander.proofs.HeldStays.{Between, between-wrote, stage_wrote, texts-wrote, above_wrote}
use Rattle.expander.specs.Stage.{WroteOnly}
use Rattle.expander.proofs.NamesLaws.{ground_around, named-around, names_around}
use Rattle.appending.specs.declared.Appended.{Appended}
use Rattle.appending.specs.Built.{Gives}
use Rattle.appending.proofs.BuiltAround.{key_agree, built_agree}
use Rattle.appending.specs.Pieces.{Piece, naming, plainly, nested, then_piece, symbols_piece, item_piece, Steady, Appending, Appends}

-- ---- pieces whose bytes stay when texts come to the texts
pub steady_naming : (t : Text) → Steady (naming t)
steady_naming t = record { same = λ ts us h. refl }

pub steady_plainly : (xs : List ℕ) → Steady (plainly xs)
steady_plainly xs = record { same = λ ts us h. refl }

pub steady_nested : (b : Bool) → Steady (nested b)
steady_nested b = record { same = λ ts us h. refl }

pub steady_then : (x y : Piece) → Steady x → Steady y → Steady (then_piece x y)
steady_then x y p q = record { same = λ ts us h. let (a, b) = there_parts ts x.texts y.texts h in rw (p.same ts us a, q.same ts us b) refl }

pub steady_symbols : (wd : ℕ) (ys : Syms) → Steady (symbols_piece wd ys)
steady_symbols wd ys = record { same = λ ts us h. syms_known wd ts (ts ++ us) (record { more = us; is = refl }) _ h }

pub steady_item : (wd : ℕ) (d : Item) → Steady (item_piece wd d)
steady_item wd d = record { same = λ ts us h. there_bytes wd ts (ts ++ us) (record { more = us; is = refl }) d h }

-- ---- flags
or_and : (a b c : Bool) → ((a || not b) || not c) ≡ a || not (b && c)
or_and true b c = refl
or_and false true c = refl
or_and false false true = refl
or_and false false false = refl

or-false : (a : Bool) → a ≡ a || not true
or-false true = refl
or-false false = refl

module _ (s : List ℕ) (g : Ground) (n lim : ℕ) (ps : List ℕ) where
  -- nothing
  pub appends-none : (w : List ℕ) (v : Appended) → Appending s g n lim ps w v → Appends s g n lim ps w v (plainly []) v w
  unfolding with_new
  appends-none w v h = record {
    going = h;
    long = refl;
    texts-are = refl;
    whole = λ z. lies_none w v.to;
    over = λ z. omega (arith, h.upto);
    deep = or-false v.deep;
    pile = λ j l. refl;
    kept = λ i z. refl;
  }

  -- the cursor never goes back
  pub appends_on : (w : List ℕ) (v : Appended) (x : Piece) (v' : Appended) (w' : List ℕ) → Appending s g n lim ps w v → Appends s g n lim ps w v x v' w' → v.to ≤ v'.to
  appends_on w v x v' w' h a = go (fits_or_not (v.to + length (x.bytes (named_in s w' g v'.count))) lim)
    where
      go : (v.to + length (x.bytes (named_in s w' g v'.count)) ≤ lim) ⊎ (lim < v.to + length (x.bytes (named_in s w' g v'.count))) → v.to ≤ v'.to
      go (inl z) = omega (arith, (a.whole z).end)
      go (inr z) = omega (arith, a.over z, h.upto)

  -- one behind another
  pub appends_then : (w : List ℕ) (v : Appended) (x : Piece) (v1 : Appended) (w1 : List ℕ) (y : Piece) (v2 : Appended) (w2 : List ℕ) → Steady x → Appending s g n lim ps w v
      → Appends s g n lim ps w v x v1 w1 → Appends s g n lim ps w1 v1 y v2 w2 → Appends s g n lim ps w v (then_piece x y) v2 w2
  appends_then w v x v1 w1 y v2 w2 steady h a b = record {
    going = b.going;
    long = b.long ∙ a.long;
    texts-are = b.texts-are ∙ ap (λ (ts : List Text). with_new ts y.texts) a.texts-are ∙ sym (new_append (named_in s w g v.count) x.texts y.texts);
    whole = both;
    over = outside;
    deep = b.deep ∙ ap (λ (d : Bool). d || not y.fits) a.deep ∙ or_and v.deep x.fits y.fits;
    pile = λ j l. b.pile j l ∙ a.pile j l;
    kept = λ i z. b.kept i (later i z) ∙ a.kept i z;
  }
    where
      T1 : List Text
      T1 = named_in s w1 g v1.count

      T2 : List Text
      T2 = named_in s w2 g v2.count

      grows : Extends T1 T2
      grows = subst (Extends T1) (sym b.texts-are) (new_extends T1 y.texts)

      there : Each (λ (t : Text). has t T1 ≡ true) x.texts
      there = subst (λ (ts : List Text). Each (λ (t : Text). has t ts ≡ true) x.texts) (sym a.texts-are) (new_all (named_in s w g v.count) x.texts)

      same : x.bytes T2 ≡ x.bytes T1
      same = ap x.bytes grows.is ∙ steady.same T1 grows.more there

      on : v.to ≤ v1.to
      on = appends_on w v x v1 w1 h a

      both : v.to + length (x.bytes T2 ++ y.bytes T2) ≤ lim → Lies w2 v.to (x.bytes T2 ++ y.bytes T2) v2.to
      both z =
          let k = length-append (x.bytes T2) (y.bytes T2) in
          let e = ap length same in
          let p = a.whole (omega arith) in
          let q = b.whole (omega (arith, p.end)) in
          let o = lies_agree w1 w2 v.to v1.to (x.bytes T1) b.long (omega (arith, p.end, a.going.inside, q.end)) (λ i c d. b.kept i (inr (inl (omega (arith, h.top), d)))) p in
          lies_append (subst (λ (xs : List ℕ). Lies w2 v.to xs v1.to) (sym same) o) q

      outside : lim < v.to + length (x.bytes T2 ++ y.bytes T2) → v2.to ≡ lim + 1
      outside z = go (fits_or_not (v.to + length (x.bytes T1)) lim)
        where
          go : (v.to + length (x.bytes T1) ≤ lim) ⊎ (lim < v.to + length (x.bytes T1)) → v2.to ≡ lim + 1
          go (inl k) = b.over (omega (arith, (a.whole k).end, length-append (x.bytes T2) (y.bytes T2), ap length same))
          go (inr k) = b.over (omega (arith, a.over k))

      later : (i : ℕ) → (i < list_place g 0) ⊎ ((top_of g ≤ i) × (i < v.to)) ⊎ (lim ≤ i) → (i < list_place g 0) ⊎ ((top_of g ≤ i) × (i < v1.to)) ⊎ (lim ≤ i)
      later i (inl z) = inl z
      later i (inr (inl z)) = inr (inl (z.0, omega (arith, z.1, on)))
      later i (inr (inr z)) = inr (inr z)

  -- the same piece, told otherwise
  pub appends_is : (w : List ℕ) (v : Appended) (x : Piece) (v' : Appended) (w' : List ℕ) → Appends s g n lim ps w v x v' w' → (y : Piece)
      → with_new (named_in s w g v.count) y.texts ≡ with_new (named_in s w g v.count) x.texts
      → y.bytes (named_in s w' g v'.count) ≡ x.bytes (named_in s w' g v'.count) → y.fits ≡ x.fits → Appends s g n lim ps w v y v' w'
  appends_is w v x v' w' a y t b f = record {
    going = a.going;
    long = a.long;
    texts-are = a.texts-are ∙ sym t;
    whole = λ z. subst (λ (xs : List ℕ). Lies w' v.to xs v'.to) (sym b) (a.whole (omega (arith, ap length b)));
    over = λ z. a.over (omega (arith, ap length b));
    deep = a.deep ∙ ap (λ (d : Bool). v.deep || not d) (sym f);
    pile = a.pile;
    kept = a.kept;
  }

  -- bytes put
  module _ (w : List ℕ) (v : Appended) (xs : List ℕ) (r : ℕ) (w' : List ℕ) (h : Appending s g n lim ps w v) (p : Puts w lim v.to xs r w') where
    between : Between v.to lim w w'
    between = record { long = p.long; others = λ i z. puts_beside w w' lim v.to xs r p i z }

    agree : Agree w w' (list_place g 0) (top_of g)
    agree = record { agree = λ i x y. between.others i (inl (omega (arith, h.top))) }

    wrote : WroteOnly g v.to lim w w'
    wrote = between-wrote g v.to lim w w' h.top between (omega (arith, list_keys s w g h.ground, keys_slots s w g h.ground, slots_top s w g h.ground))

    named : named_in s w' g v.count ≡ named_in s w g v.count
    named = named-around s w w' g v.to lim lim h.ground h.top h.items (omega arith) h.above between n v.count ps h.names

    put_going : Appending s g n lim ps w' (record { to = r; count = v.count; deep = v.deep })
    put_going = record {
      ground = ground_around s w w' g v.to lim lim h.ground h.top h.items (omega arith) h.above between;
      names = names_around s w w' g v.to lim lim h.ground h.top h.items (omega arith) h.above between n v.count ps h.names;
      built = built_agree s w w' g h.ground agree (stage_wrote s w w' g v.to lim lim h.ground h.top h.items (omega arith) h.above wrote)
          (texts-wrote s w w' g v.to lim lim h.ground h.top h.items (omega arith) h.above wrote) n v.count named h.built;
      top = omega (arith, h.top, on);
      items = omega (arith, h.items, on);
      upto = puts_upto w w' lim v.to xs r p;
      low = h.low;
      behind = rw p.long h.behind;
      inside = rw p.long h.inside;
      above = above_wrote s w w' g v.to lim lim h.ground h.top h.items (omega arith) h.above wrote;
    }
      where
        on : v.to ≤ r
        on = puts_on w w' lim v.to xs r p h.upto

    pub appends_puts : Appends s g n lim ps w v (plainly xs) (record { to = r; count = v.count; deep = v.deep }) w'
    unfolding with_new
    appends_puts = record {
      going = put_going;
      long = p.long;
      texts-are = named;
      whole = λ z. subst (λ (e : ℕ). Lies w' v.to xs e) (sym (p.after z)) (subst (λ (o : List ℕ). Lies o v.to xs (v.to + length xs)) (sym (p.whole z)) (lies_store w v.to xs (omega (arith, h.inside))));
      over = p.over;
      deep = or-false v.deep;
      pile = λ j l. key_agree s w w' g h.ground agree n v.count h.built j l;
      kept = λ i z. between.others i (go i z);
    }
      where
        go : (i : ℕ) → (i < list_place g 0) ⊎ ((top_of g ≤ i) × (i < v.to)) ⊎ (lim ≤ i) → (i < v.to) ⊎ (lim ≤ i)
        go i (inl z) = inl (omega (arith, h.top, list_keys s w g h.ground, keys_slots s w g h.ground, slots_top s w g h.ground))
        go i (inr (inl z)) = inl z.1
        go i (inr (inr z)) = inr z

  -- a text numbered
  pub appends_gives : (w : List ℕ) (v : Appended) (t : Text) (r : Numbered) (w' : List ℕ) → Appending s g n lim ps w v → Gives s w g n v.count ps t r w'
      → Appends s g n lim ps w v (naming t) (record { to = v.to; count = r.count; deep = v.deep }) w'
  appends_gives w v t r w' h a = record {
    going = record {
      ground = grounded_around s w w' g h.ground a.around;
      names = a.names;
      built = a.built;
      top = h.top;
      items = h.items;
      upto = h.upto;
      low = h.low;
      behind = rw a.around.long h.behind;
      inside = rw a.around.long h.inside;
      above = above_stays s w g.m w' g.m lim (table-around s w w' g h.ground a.around) h.above;
    };
    long = a.around.long;
    texts-are = a.texts-are;
    whole = λ z. lies_none w' v.to;
    over = λ z. omega (arith, h.upto);
    deep = or-false v.deep;
    pile = a.pile;
    kept = λ i z. a.around.others i (go i z);
  }
    where
      go : (i : ℕ) → (i < list_place g 0) ⊎ ((top_of g ≤ i) × (i < v.to)) ⊎ (lim ≤ i) → (i < list_place g 0) ⊎ (top_of g ≤ i)
      go i (inl z) = inl z
      go i (inr (inl z)) = inr z.0
      go i (inr (inr z)) = inr (omega (arith, h.low))

  -- nesting asked
  pub appends_nested : (w : List ℕ) (v : Appended) (b : Bool) → Appending s g n lim ps w v → Appends s g n lim ps w v (nested b) (record { to = v.to; count = v.count; deep = v.deep || not b }) w
  unfolding with_new
  appends_nested w v b h = record {
    going = record {
      ground = h.ground;
      names = h.names;
      built = h.built;
      top = h.top;
      items = h.items;
      upto = h.upto;
      low = h.low;
      behind = h.behind;
      inside = h.inside;
      above = h.above;
    };
    long = refl;
    texts-are = refl;
    whole = λ z. lies_none w v.to;
    over = λ z. omega (arith, h.upto);
    deep = refl;
    pile = λ j l. refl;
    kept = λ i z. refl;
  }
