-- Symbols noted one behind another, and what stays where they stand. Assumes nothing.
use mathlib.Core.Path.{◌≡◌, refl, sym, ◌∙◌, subst}
use mathlib.Core.Bool.{Bool, false}
use mathlib.Core.Logic.{inl, inr}
use mathlib.Core.List.{List, [], ◌∷◌, ◌++◌}
use Prim.Native.Nat.{ℕ, ◌+◌, ◌<◌, ◌≤◌}
use native.Mathlib.Omega.{arith}
use lib.ListN.{get_or}
use Rattle.octets.specs.Plain.Runs.{Lies}
use Rattle.octets.proofs.LiesLaws.{lies_part, part_lies}
use Rattle.parse_tree.specs.Plain.Tree.{Text, Sym, Syms}
use Rattle.parse_tree.specs.Working.Encode.{sym_bytes, syms_bytes}
use Rattle.parse_tree.specs.Working.Within.{SymWithin, SymsWithin}
use Rattle.texts.specs.Table.{texts}
use Rattle.texts.proofs.TableStays.{part-agree}
use Rattle.resolve.specs.Whole.{Apart}
use Rattle.replacing.specs.Prints.{same_print, text_is}
use Rattle.replacing.specs.Slots.{Slots, note_all}
use Rattle.expander.specs.declared.Ground.{Ground}
use Rattle.expander.specs.declared.replace.Formed.{Formed}
use Rattle.expander.specs.Ground.{size_in, stage_in, top_of, same_at, text_in, Grounded, KeptAround, Around}
use Rattle.expander.specs.Held.{Held, AllBefore, Off, Notes}
use Rattle.expander.specs.Replace.{StandsAt, StandAt, HeldBefore, NotedAll}
use Rattle.expander.proofs.GroundLaws.{kept-around, stage_around, texts-around, grounded_around}
use Rattle.expander.proofs.KeysLaws.{Spread}
use Rattle.expander.proofs.NotedKeys.{notes_append, notes_before, notes_off}

kept-none : (g : Ground) (w : List ℕ) → KeptAround g w w
kept-none g w = record { long = refl; others = λ i h. refl }

kept_then : (g : Ground) (u v w : List ℕ) → KeptAround g u v → KeptAround g v w → KeptAround g u w
kept_then g u v w a b = record { long = b.long ∙ a.long; others = λ i h. b.others i h ∙ a.others i h }

-- ---- where symbols were noted
module _ (s w v : List ℕ) (g : Ground) (G : Grounded s w g) (k : KeptAround g w v) where
  abbrev away : Around g w v
  away = kept-around s w g G v k

  pub kept-grounded : Grounded s v g
  kept-grounded = grounded_around s w v g G away

  pub kept-texts : texts s v g.m ≡ texts s w g.m
  kept-texts = texts-around s w v g G away

  kept-stage : stage_in v g ≡ stage_in w g
  kept-stage = stage_around s w v g G away

  -- the bytes of the items stay
  pub kept_byte : (i : ℕ) → g.from ≤ i → i < g.end → get_or v i 0 ≡ get_or w i 0
  unfolding top_of
  kept_byte i x y = go G.off
    where
      go : Apart g.from g.end g.m.base (top_of g) → get_or v i 0 ≡ get_or w i 0
      go (inl p) = k.others i (inl (omega (arith, G.records)))
      go (inr p) = k.others i (inr (omega arith))

  kept-lies : (xs : List ℕ) (p e : ℕ) → e ≤ size_in g → Lies w (g.from + p) xs (g.from + e) → Lies v (g.from + p) xs (g.from + e)
  unfolding size_in
  kept-lies xs p e i l =
      let o = G.ordered in
      let n = G.inside in
      let d = l.end in
      let m = k.long in
      let same = part-agree w v (g.from + p) (g.from + e) k.long (omega arith) (λ j x y. kept_byte j (omega arith) (omega arith)) in
      subst (λ (ys : List ℕ). Lies v (g.from + p) ys (g.from + e)) (same ∙ lies_part w (g.from + p) (g.from + e) xs l) (part_lies v (g.from + p) (g.from + e) (omega arith) (omega arith))

  -- theorem: what stands in the items stays
  pub kept-stands : (four : Bool) (left p e : ℕ) (y : Sym) → e ≤ size_in g → StandsAt s w g four left p e y → StandsAt s v g four left p e y
  kept-stands four left p e y i h = record {
    within = subst (λ (ts : List Text). SymWithin four g.width.bytes ts y left) (sym kept-texts) h.within;
    lies = subst (λ (ts : List Text). Lies v (g.from + p) (sym_bytes g.width.bytes ts y) (g.from + e)) (sym kept-texts) (kept-lies (sym_bytes g.width.bytes (texts s w g.m) y) p e i h.lies);
  }

  pub kept-stand : (four : Bool) (left p e : ℕ) (ys : Syms) → e ≤ size_in g → StandAt s w g four left p e ys → StandAt s v g four left p e ys
  kept-stand four left p e ys i h = record {
    within = subst (λ (ts : List Text). SymsWithin four g.width.bytes ts ys left) (sym kept-texts) h.within;
    lies = subst (λ (ts : List Text). Lies v (g.from + p) (syms_bytes g.width.bytes ts ys) (g.from + e)) (sym kept-texts) (kept-lies (syms_bytes g.width.bytes (texts s w g.m) ys) p e i h.lies);
  }

  -- what is said of the items and the texts there was so before
  said_back : (P : List ℕ → List Text → Type 0) → P (stage_in v g) (texts s v g.m) → P (stage_in w g) (texts s w g.m)
  said_back P x = subst (λ (ts : List Text). P (stage_in w g) ts) kept-texts (subst (λ (st : List ℕ). P st (texts s v g.m)) kept-stage x)

  -- symbols print alike as before
  notes_back : (z : List ℕ) (n c : ℕ) (ps : List ℕ) (x : Slots) → Held s z g n c (note_all (same_at s v g) (text_in s v g) ps x) → Held s z g n c (note_all (same_at s w g) (text_in s w g) ps x)
  notes_back z n c ps x h = said_back (λ st ts. Held s z g n c (note_all (λ p q. same_print false g.width.bytes st ts p q) (λ p. text_is false g.width.bytes st ts p) ps x)) h

-- ---- one behind another
module _ (s w : List ℕ) (g : Ground) where
  -- no symbols
  pub noted_none : (p n e : ℕ) (r : Formed) → r.at ≡ e → r.pile ≡ n → p ≡ e → NotedAll s w g p n e [] r w
  unfolding note_all
  noted_none p n e r a b z = record {
    end = a;
    kept = kept-none g w;
    least = omega arith;
    most = omega arith;
    held = λ c x h f. subst (λ (m : ℕ). Held s w g m c x) (sym b) h;
  }

  module _ (G : Grounded s w g) where
    -- theorem: some, then others
    pub noted_then : (v z : List ℕ) (p n d e : ℕ) (ps qs : List ℕ) (r t : Formed) → p ≤ d → Spread p d ps → NotedAll s w g p n d ps r v → NotedAll s v g d r.pile e qs t z → NotedAll s w g p n e (ps ++ qs) t z
    noted_then v z p n d e ps qs r t l sp a b = record {
      end = b.end;
      kept = kept_then g w v z a.kept b.kept;
      least = omega (arith, a.least, b.least);
      most = omega (arith, a.most, b.most);
      held = λ c x h f. subst (λ (y : Slots). Held s z g t.pile c y) (sym (notes_append (same_at s w g) (text_in s w g) ps qs x))
          (notes_back s w v g G a.kept z t.pile c qs (note_all (same_at s w g) (text_in s w g) ps x)
          (b.held c (note_all (same_at s w g) (text_in s w g) ps x) (a.held c x h f) (notes_before (same_at s w g) (text_in s w g) p d ps x l sp f)));
    }

    -- those inside a symbol that is not expanded
    pub noted_plain : (v : List ℕ) (p d n e : ℕ) (ps : List ℕ) (q r : Formed) → p ≤ d → r.at ≡ q.at → r.pile ≡ q.pile → NotedAll s w g d n e ps q v → NotedAll s w g p n e ps r v
    noted_plain v p d n e ps q r l i j a = record {
      end = i ∙ a.end;
      kept = a.kept;
      least = omega (arith, a.least);
      most = omega (arith, a.most);
      held = λ c x h f. subst (λ (m : ℕ). Held s v g m c (note_all (same_at s w g) (text_in s w g) ps x)) (sym j) (a.held c x h (λ o y. omega (arith, f o y)));
    }

    -- theorem: those inside a symbol that is, then itself
    pub noted_own : (v z : List ℕ) (p d n e m : ℕ) (ps : List ℕ) (q r : Formed) → p + 9 ≤ d → Spread d e ps → r.at ≡ q.at → r.pile ≡ m → HeldBefore s w g p n → NotedAll s w g d n e ps q v → Notes s v g q.pile p m z
        → NotedAll s w g p n e (ps ++ (p ∷ [])) r z
    unfolding note_all Notes
    noted_own v z p d n e m ps q r l sp i j b a o =
        let inner : (c : ℕ) (x : Slots) → Held s w g n c x → AllBefore p x → Held s v g q.pile c (note_all (same_at s w g) (text_in s w g) ps x) = λ c x h f. a.held c x h (λ u y. omega (arith, f u y)) in
        let off : (x : Slots) → AllBefore p x → Off p (note_all (same_at s w g) (text_in s w g) ps x) = λ x f. notes_off (same_at s w g) (text_in s w g) p d e ps x l sp f in
        let some = o b.new (note_all (same_at s w g) (text_in s w g) ps b.slots) (inner b.new b.slots b.held b.before) (off b.slots b.before) in
        let x0 = a.least in
        let x1 = a.most in
        let x2 = some.least in
        let x3 = some.most in
        record {
          end = i ∙ a.end;
          kept = kept_then g w v z a.kept some.kept;
          least = omega arith;
          most = omega arith;
          held = λ c x h f.
              subst (λ (k : ℕ). Held s z g k c (note_all (same_at s w g) (text_in s w g) (ps ++ (p ∷ [])) x)) (sym j)
              (subst (λ (y : Slots). Held s z g m c y) (sym (notes_append (same_at s w g) (text_in s w g) ps (p ∷ []) x))
              (notes_back s w v g G a.kept z m c (p ∷ []) (note_all (same_at s w g) (text_in s w g) ps x)
              (o c (note_all (same_at s w g) (text_in s w g) ps x) (inner c x h f) (off x f)).held));
        }

    -- what is held behind them
    pub held-behind : (v : List ℕ) (p d n : ℕ) (ps : List ℕ) (r : Formed) → p ≤ d → Spread p d ps → HeldBefore s w g p n → NotedAll s w g p n d ps r v → HeldBefore s v g d r.pile
    held-behind v p d n ps r l sp b a = record {
      few = omega (arith, a.most, b.few);
      new = b.new;
      slots = note_all (same_at s w g) (text_in s w g) ps b.slots;
      held = a.held b.new b.slots b.held b.before;
      before = notes_before (same_at s w g) (text_in s w g) p d ps b.slots l sp b.before;
    }

    -- and inside a symbol before them
    pub held-inside : (p d n : ℕ) → p ≤ d → HeldBefore s w g p n → HeldBefore s w g d n
    held-inside p d n l b = record { few = omega (arith, b.few); new = b.new; slots = b.slots; held = b.held; before = λ u y. omega (arith, b.before u y) }
