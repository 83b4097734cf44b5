-- Symbols of which all inside were noted: the text that one is known to print as, and what is left of the places when one goes inside. Assumes nothing.
use mathlib.Core.Path.{◌≡◌, refl, sym, ap, ◌∙◌, subst}
use mathlib.Core.Bool.{Bool, true, false}
use mathlib.Core.List.{List, [], ◌∷◌, ◌++◌}
use Prim.Native.Nat.{ℕ, ◌+◌, ◌-◌, ◌/◌, ◌%◌, ◌<◌}
use native.Mathlib.Omega.{arith}
use borrow.Author.Tests.{eqb-true, ltb-true}
use lib.Dec.{eqb, ltb}
use lib.ListN.{get_or}
use Rattle.octets.specs.Working.Choice.{pick}
use Rattle.parse_tree.specs.Plain.Tree.{Text, Sym}
use Rattle.parse_tree.specs.Plain.Display.{print}
use Rattle.parse_tree.specs.Working.Within.{Each}
use Rattle.parse_tree.proofs.ReadingLaws.{got_as}
use Rattle.parse_tree.proofs.ItemBack.{sym_reads}
use Rattle.texts.specs.declared.Map.{Map}
use Rattle.texts.specs.Table.{texts}
use Rattle.replacing.specs.Trees.{is_key}
use Rattle.replacing.specs.Slots.{Ref, Slots}
use Rattle.replacing.specs.Sound.{HasRef, Good}
use Rattle.replacing.proofs.NumbersMean.{ref_good}
use Rattle.display.specs.declared.Met.{Met}
use Rattle.display.specs.Standing.{SymStands}
use Rattle.std.specs.Prelude.{Option, Some, None}
use Rattle.display.proofs.FollowCode.{lost}
use Rattle.display.specs.Follow.{met_by, index_of, Follows}
use Rattle.expander.specs.declared.Ground.{Ground}
use Rattle.expander.specs.Ground.{slot_at, symbol_in, KeyAt, Grounded}
use Rattle.expander.specs.Held.{ref_by, ref_in, followed, Held}
use Rattle.expander.specs.Replace.{expanded_code}
use Rattle.expander.specs.Meet.{SymbolLies, SomeEnd, EndsAt, table_text, text_known_at, inner_keys, NotedAt, SomeKnown, SomeInner}
use Rattle.expander.proofs.SlotsCode.{followed-even, ref_text}
use Rattle.expander.proofs.KeysLaws.{own_keys, keys_parts, sym_any, stands_code, stands_symbol}

-- ---- what holds of each of two lists
pub each-parts : {A : Type 0} (P : A → Type 0) (xs ys : List A) → Each P (xs ++ ys) → Each P xs × Each P ys
each-parts P [] ys h = (tt, h)
each-parts P (x ∷ xs) ys h = let z = each-parts P xs ys h.1 in ((h.0, z.0), z.1)

module _ (s w : List ℕ) (g : Ground) where
  pub noted_parts : (ps qs : List ℕ) → NotedAt s w g (ps ++ qs) → NotedAt s w g ps × NotedAt s w g qs
  noted_parts ps qs N =
      let z = each-parts (λ q. HasRef q N.slots) ps qs N.noted in
      (record { pushed = N.pushed; new = N.new; slots = N.slots; held = N.held; noted = z.0 }, record { pushed = N.pushed; new = N.new; slots = N.slots; held = N.held; noted = z.1 })

-- ---- one symbol at most stands at a place
pub one_symbol : (s w : List ℕ) (m : Map) (wd left at : ℕ) (four : Bool) (e : ℕ) (x : Sym) (other : Bool) (d : ℕ) (y : Sym) → SymStands s w m wd four left at e x → SymStands s w m wd other left at d y → (e ≡ d) × (x ≡ y)
one_symbol s w m wd left at four e x other d y h k =
    let i = sym_reads false wd w (texts s w m) x left (sym_any four wd (texts s w m) x left h.within) at e h.lies in
    let j = sym_reads false wd w (texts s w m) y left (sym_any other wd (texts s w m) y left k.within) at d k.lies in
    got_as (λ z c. (e ≡ c) × (x ≡ z)) (sym i ∙ j) (refl, refl)

-- what stands at a place lies there
pub stands_lies : (s w : List ℕ) (m : Map) (wd left at : ℕ) (four : Bool) (e : ℕ) (x : Sym) → SymStands s w m wd four left at e x → SymbolLies w wd at e
stands_lies s w m wd left at four e x h = record { texts = texts s w m; four = four; left = left; symbol = x; within = h.within; lies = h.lies }

-- ---- a text that a slot tells of
pub record Tells (w : List ℕ) (g : Ground) (at k : ℕ) : Type 0 where
  pub code : expanded_code (get_or w at 0) ≡ true
  pub even : slot_at w g (at - g.from) % 2 ≡ 0
  pub is : k ≡ slot_at w g (at - g.from) / 2
  pub below : k < g.m.count

tells : (w : List ℕ) (g : Ground) (at k : ℕ) → Some k ≡ text_known_at w g at → Tells w g at k
unfolding text_known_at table_text pick
tells w g at k e = go (expanded_code (get_or w at 0)) (eqb (slot_at w g (at - g.from) % 2) 0) (ltb (slot_at w g (at - g.from) / 2) g.m.count) refl refl refl e
  where
    some : (i : ℕ) → Some k ≡ Some i → k ≡ i
    some i z = cc

    none : {T : Type 0} → Some k ≡ None → T
    none z = absurd cc

    go : (b c d : Bool) → expanded_code (get_or w at 0) ≡ b → eqb (slot_at w g (at - g.from) % 2) 0 ≡ c → ltb (slot_at w g (at - g.from) / 2) g.m.count ≡ d
        → Some k ≡ pick b (pick c (pick d (Some (slot_at w g (at - g.from) / 2)) None) None) None → Tells w g at k
    go false c d j o q z = none z
    go true false d j o q z = none z
    go true true false j o q z = none z
    go true true true j o q z = record { code = j; even = eqb-true (slot_at w g (at - g.from) % 2) 0 o; is = some _ z; below = let l = ltb-true (slot_at w g (at - g.from) / 2) g.m.count q in rw (some _ z) l }

pub known_below : (w : List ℕ) (g : Ground) (at k : ℕ) (r : Option ℕ) → r ≡ text_known_at w g at → r ≡ Some k → k < g.m.count
known_below w g at k r e j = (tells w g at k (sym j ∙ e)).below

module _ (s w : List ℕ) (g : Ground) (G : Grounded s w g) where
  -- theorem: the text that an even slot tells of is the print
  slot_print : (n c p v : ℕ) (x : Slots) → Held s w g n c x → HasRef p x → v ≡ slot_at w g p → v % 2 ≡ 0 → v / 2 < g.m.count → get_or (texts s w g.m) (v / 2) [] ≡ print (symbol_in s w g p)
  unfolding ref_in
  slot_print n c p v x h i e z l =
      let a : followed w g (slot_at w g p) ≡ v = ap (followed w g) (sym e) ∙ followed-even w g v z in
      let o = sym (h.refs p i) ∙ ap (ref_by w g) a ∙ ref_text w g v z l in
      (subst (λ (r : Ref). Good (symbol_in s w g) (KeyAt s w g) (texts s w g.m) x.firsts p r) o
      (ref_good (symbol_in s w g) (KeyAt s w g) (texts s w g.m) G.distinct-texts x.firsts p x.refs h.sound.refs i)).1

  module _ (left at : ℕ) (K : SomeKnown s w g left at) where
    here : SymStands s w g.m g.width.bytes K.four left at (g.from + K.end) K.symbol
    here = rw K.is K.stands

    -- its own place has a reference if it is expanded
    parts : NotedAt s w g (inner_keys s w g K.symbol K.place) × NotedAt s w g (own_keys (is_key K.symbol) K.place)
    parts = noted_parts s w g (inner_keys s w g K.symbol K.place) (own_keys (is_key K.symbol) K.place) (subst (NotedAt s w g) (keys_parts g.width.bytes (texts s w g.m) K.symbol K.place) K.noted)

    -- theorem: what is inside it was noted
    pub known_inner : SomeInner s w g left at
    known_inner = record { four = K.four; place = K.place; end = K.end; symbol = K.symbol; is = K.is; levels = K.levels; stands = K.stands; inside = K.inside; noted = parts.0 }

    -- and it lies there
    pub known_lies : SomeEnd w g.width.bytes at
    known_lies = record { end = g.from + K.end; lies = stands_lies s w g.m g.width.bytes left at K.four (g.from + K.end) K.symbol here }

    module _ (k : ℕ) (e : Some k ≡ text_known_at w g at) where
      told : Tells w g at k
      told = tells w g at k e

      expanded : is_key K.symbol ≡ true
      expanded = sym (stands_code s w g G K.four left K.place K.end K.symbol K.stands K.inside) ∙ ap (λ (a : ℕ). expanded_code (get_or w a 0)) (sym K.is) ∙ told.code

      own : NotedAt s w g (K.place ∷ [])
      unfolding own_keys pick
      own = subst (λ (b : Bool). NotedAt s w g (own_keys b K.place)) expanded parts.1

      -- theorem: the text is the symbol's print
      known_print : get_or (texts s w g.m) k [] ≡ print K.symbol
      known_print =
          let z : at - g.from ≡ K.place = omega (arith, K.is) in
          let v = slot_at w g (at - g.from) in
          let i = slot_print own.pushed own.new K.place (slot_at w g (at - g.from)) own.slots own.held own.noted.0 (ap (slot_at w g) z) told.even (omega (arith, told.is, told.below)) in
          ap (λ (a : ℕ). get_or (texts s w g.m) a []) told.is ∙ i ∙ ap print (stands_symbol s w g G K.four left K.place K.end K.symbol K.stands K.inside K.levels)

-- theorem: the text was held against t in its place
module _ (s w : List ℕ) (g : Ground) (left : ℕ) (t : Text) (p : Met) (k : ℕ) (x : Text) (G : Grounded s w g) (K : SomeKnown s w g left p.at) (y : Option ℕ) (e : y ≡ text_known_at w g p.at) (l : y ≡ Some k)
    (f : x ≡ get_or (texts s w g.m) k []) (o : Option ℕ) (j : o ≡ met_by t (Some p.i) x) where
  one : (four : Bool) (c : ℕ) (y : Sym) → SymStands s w g.m g.width.bytes four left p.at c y → (g.from + K.end ≡ c) × (K.symbol ≡ y)
  one four c y i = one_symbol s w g.m g.width.bytes left p.at K.four (g.from + K.end) K.symbol four c y (here s w g G left p.at K) i

  text_met : (four : Bool) (c : ℕ) (y : Sym) → SymStands s w g.m g.width.bytes four left p.at c y → o ≡ met_by t (Some p.i) (print y)
  text_met four c y i = j ∙ ap (met_by t (Some p.i)) (f ∙ known_print s w g G left p.at K k (sym l ∙ e) ∙ ap print (one four c y i).1)

  pub known_lost : o ≡ None → Follows s w g.m g.width.bytes left t p None
  known_lost z = lost s w g.m g.width.bytes left t p (λ four c y i. sym z ∙ text_met four c y i)

  pub known_follows : (a i : ℕ) → EndsAt w g.width.bytes p.at a → o ≡ Some i → Follows s w g.m g.width.bytes left t p (Some (record { at = a; i = i }))
  unfolding EndsAt index_of
  known_follows a i d z = record {
    place = λ q u four c y h. let v : q ≡ record { at = a; i = i } = cc in rw v (d c (stands_lies s w g.m g.width.bytes left p.at four c y h));
    met = λ four c y h. sym z ∙ text_met four c y h;
  }
