-- The stages: what a size refuses is 20 or 21, and all else is as the passes have it; a yes is the same yes at every higher limit, with an output
-- no shorter. Assumes nothing.
use mathlib.Core.Path.{◌≡◌, refl, ap, ◌∙◌}
use mathlib.Core.Logic.{◌⊎◌, inl, inr}
use mathlib.Core.Bool.{Bool, true, false, cond}
use mathlib.Core.List.{List, [], ◌∷◌, ◌++◌}
use Prim.Native.Nat.{ℕ, zero, suc, ◌+◌, ◌*◌, ◌≤◌}
use native.Mathlib.Omega.{arith}
use borrow.Author.Tests.{leb-true, le-leb}
use lib.Dec.{leb}
use lib.ListN.{length}
use Rattle.parse_tree.specs.Plain.Tree.{Text, Item, Stage}
use Rattle.parse_tree.specs.Plain.Reading.{Reading, got, refused}
use Rattle.parse_tree.specs.Plain.WriteTape.{tape_of}
use Rattle.parse_tree.specs.Plain.ReadTape.{read_tape}
use Rattle.parse_tree.specs.Plain.References.{stage_of}
use Rattle.passes.specs.Outcome.{Tree, Outcome, yes, no, after}
use Rattle.passes.specs.Resolve.{resolve}
use Rattle.passes.specs.Levels.{levels}
use Rattle.passes.specs.Macros.{Pending, MacroExpander, replace_items, drain, span_of, without_macros}
use Rattle.passes.specs.Sizes.{stage_fits}
use Rattle.passes.specs.Stages.{last_stage, or_more, stage, resolve_stage, level_stage, rounds, macro_stages, all_stages}
use Rattle.passes.specs.Calls.{nowhere, read_as, sizes, validate_call, whole}
use Rattle.passes.proofs.Outcomes.{no≢yes, yes_inj, after-yes, after_is}

-- ---- a stage that its size admits
pub record Admitted (w cap : ℕ) (g h : Stage) : Type 0 where
  pub same : g ≡ h
  pub fits : stage_fits w g ≡ true
  pub room : length (tape_of w g) ≤ cap

pub admitted : (w cap : ℕ) (g h : Stage) → sizes w cap g ≡ yes h → Admitted w cap g h
unfolding sizes
admitted w cap g h e = go (stage_fits w g) refl (leb (length (tape_of w g)) cap) refl e
  where
    go : (a : Bool) → stage_fits w g ≡ a → (b : Bool) → leb (length (tape_of w g)) cap ≡ b → cond a (cond b (yes g) (no 21 nowhere)) (no 20 nowhere) ≡ yes h → Admitted w cap g h
    go true x true y z = record { same = yes_inj g h z; fits = x; room = leb-true (length (tape_of w g)) cap y }
    go true x false y z = absurd (no≢yes 21 nowhere h z)
    go false x b y z = absurd (no≢yes 20 nowhere h z)

-- ---- what one admits, the other admits as it is: then a yes of the one is the same yes of the other, at every higher limit
abbrev pub Admits : (Stage → Outcome Stage) → (Stage → Outcome Stage) → Type 0
Admits low high = (g h : Stage) → low g ≡ yes h → high g ≡ yes h

-- a longer output admits more
pub sizes-more : (w cap cap' : ℕ) → cap ≤ cap' → Admits (sizes w cap) (sizes w cap')
unfolding sizes
sizes-more w cap cap' l g h e = let a = admitted w cap g h e in cc (a.fits, le-leb (length (tape_of w g)) cap' (omega (arith, a.room)), a.same)

-- what stands behind a replacing stage with symbols pending; q is what replacing gave
abbrev on : (Stage → Outcome Stage) → Tree → ℕ → List Text → List Item → List Item × MacroExpander → Outcome Stage
on admit G limit ts old q =
    after (stage admit ts (old ++ q.0)) (λ h. after (drain G q.1.pile) (λ new. after (stage admit h.atoms (old ++ q.0 ++ new)) (λ k. rounds admit G limit k.atoms (old ++ q.0) new q.1.keys)))

module _ (low high : Stage → Outcome Stage) (more : Admits low high) where
  module _ (G : Tree) (g : Stage) where
    -- what the rounds behind give
    abbrev Later : ℕ → ℕ → List Item → List Item × MacroExpander → Type 0
    Later l l' old q = (us : List Text) (new : List Item) (ks : List Text) → rounds low G l us (old ++ q.0) new ks ≡ yes g → rounds high G l' us (old ++ q.0) new ks ≡ yes g

    on_more : (l l' : ℕ) (ts : List Text) (old : List Item) (q : List Item × MacroExpander) → Later l l' old q → on low G l ts old q ≡ yes g → on high G l' ts old q ≡ yes g
    on_more l l' ts old q ih h =
        let (r, er, h1) = after-yes (stage low ts (old ++ q.0)) _ g h in
        let (new, en, h2) = after-yes (drain G q.1.pile) _ g h1 in
        let (k, ek, h3) = after-yes (stage low r.atoms (old ++ q.0 ++ new)) _ g h2 in
        after_is (stage high ts (old ++ q.0)) _ r g (more (stage_of ts (old ++ q.0)) r er)
        (after_is (drain G q.1.pile) _ new g en
        (after_is (stage high r.atoms (old ++ q.0 ++ new)) _ k g (more (stage_of r.atoms (old ++ q.0 ++ new)) k ek) (ih k.atoms new q.1.keys h3)))

    -- a limit of 0 is a yes only with nothing pending
    last_more : (l' : ℕ) (ts : List Text) (old : List Item) (q : List Item × MacroExpander) (p : List Pending) → last_stage p (stage low ts (old ++ q.0)) ≡ yes g
        → (last_stage p (stage high ts (old ++ q.0)) ≡ yes g) × (or_more p (stage high ts (old ++ q.0)) (on high G l' ts old q) ≡ yes g)
    last_more l' ts old q [] h = (more (stage_of ts (old ++ q.0)) g h, more (stage_of ts (old ++ q.0)) g h)
    last_more l' ts old q (x ∷ xs) h = absurd (no≢yes 18 (span_of x) g h)

    or_more_lem : (l l' : ℕ) (ts : List Text) (old : List Item) (q : List Item × MacroExpander) (p : List Pending) → Later l l' old q
        → or_more p (stage low ts (old ++ q.0)) (on low G l ts old q) ≡ yes g → or_more p (stage high ts (old ++ q.0)) (on high G l' ts old q) ≡ yes g
    or_more_lem l l' ts old q [] ih h = more (stage_of ts (old ++ q.0)) g h
    or_more_lem l l' ts old q (x ∷ xs) ih h = on_more l l' ts old q ih h

    rounds_more : (l l' : ℕ) (ts : List Text) (old fresh : List Item) (keys : List Text) → l ≤ l' → rounds low G l ts old fresh keys ≡ yes g → rounds high G l' ts old fresh keys ≡ yes g
    unfolding rounds
    rounds_more zero zero ts old fresh keys h e =
        let q = replace_items fresh (record { keys = keys; pile = [] }) in (last_more zero ts old q q.1.pile e).0
    rounds_more zero (suc l') ts old fresh keys h e =
        let q = replace_items fresh (record { keys = keys; pile = [] }) in (last_more l' ts old q q.1.pile e).1
    rounds_more (suc l) zero ts old fresh keys h e = absurd (omega arith)
    rounds_more (suc l) (suc l') ts old fresh keys h e =
        let q = replace_items fresh (record { keys = keys; pile = [] }) in
        or_more_lem l l' ts old q q.1.pile (λ us new ks k. rounds_more l l' us (old ++ q.0) new ks (omega arith) k) e

  pub stages_more : (l l' : ℕ) → l ≤ l' → (g h : Stage) → all_stages low l g ≡ yes h → all_stages high l' g ≡ yes h
  unfolding all_stages resolve_stage level_stage macro_stages
  stages_more l l' m g h e =
      let (r, er, e1) = after-yes (resolve_stage low g) _ h e in
      let (s, es, e2) = after-yes (level_stage low r) _ h e1 in
      let (L, eL, e3) = after-yes (resolve s.items) _ h e2 in
      let (R, eR, e4) = after-yes (resolve g.items) _ r er in
      let (M, eM, e5) = after-yes (levels r.items) _ s es in
      after_is (resolve_stage high g) _ r h (after_is (resolve g.items) _ R r eR (more (stage_of g.atoms R) r e4))
      (after_is (level_stage high r) _ s h (after_is (levels r.items) _ M s eM (more (stage_of r.atoms M) s e5))
      (after_is (resolve s.items) _ L h eL (rounds_more L h l l' s.atoms [] (without_macros L) [] m e3)))

-- ---- an outcome that is another's, but for a refusal by size
abbrev pub BySize : {A : Type 0} → Outcome A → Type 0
BySize x = (x ≡ no 20 nowhere) ⊎ (x ≡ no 21 nowhere)

abbrev pub Agrees : {A : Type 0} → Outcome A → Outcome A → Type 0
Agrees x y = (x ≡ y) ⊎ BySize x

pub agree_after : {A B : Type 0} (r r' : Outcome A) (f f' : A → Outcome B) → Agrees r r' → ((a : A) → Agrees (f a) (f' a)) → Agrees (after r f) (after r' f')
agree_after {A = A} {B = B} r r' f f' (inl e) h = go r' e
  where
    go : (x : Outcome A) → r ≡ x → Agrees (after r f) (after x f')
    go (yes a) p = on_yes (h a)
      where
        on_yes : Agrees (f a) (f' a) → Agrees (after r f) (f' a)
        on_yes (inl q) = inl (ap (λ (x : Outcome A). after x f) p ∙ q)
        on_yes (inr (inl q)) = inr (inl (ap (λ (x : Outcome A). after x f) p ∙ q))
        on_yes (inr (inr q)) = inr (inr (ap (λ (x : Outcome A). after x f) p ∙ q))
    go (no n s) p = inl (ap (λ (x : Outcome A). after x f) p)
agree_after {A = A} r r' f f' (inr (inl e)) h = inr (inl (ap (λ (x : Outcome A). after x f) e))
agree_after {A = A} r r' f f' (inr (inr e)) h = inr (inr (ap (λ (x : Outcome A). after x f) e))

pub sizes-agree : (w cap : ℕ) (g : Stage) → Agrees (sizes w cap g) (yes g)
unfolding sizes
sizes-agree w cap g = go (stage_fits w g) (leb (length (tape_of w g)) cap)
  where
    go : (a b : Bool) → Agrees (cond a (cond b (yes g) (no 21 nowhere)) (no 20 nowhere)) (yes g)
    go true true = inl refl
    go true false = inr (inr refl)
    go false b = inr (inl refl)

-- a stage is refused by its size, or all goes on as without sizes
module _ (admit : Stage → Outcome Stage) (agree : (g : Stage) → Agrees (admit g) (yes g)) where
  rounds_agree : (G : Tree) (l : ℕ) (ts : List Text) (old fresh : List Item) (keys : List Text) → Agrees (rounds admit G l ts old fresh keys) (rounds yes G l ts old fresh keys)
  unfolding rounds
  rounds_agree G zero ts old fresh keys = let q = replace_items fresh (record { keys = keys; pile = [] }) in go q.1.pile (agree (stage_of ts (old ++ q.0)))
    where
      go : (p : List Pending) {x y : Outcome Stage} → Agrees x y → Agrees (last_stage p x) (last_stage p y)
      go [] a = a
      go (z ∷ zs) a = inl refl
  rounds_agree G (suc l) ts old fresh keys =
      let q = replace_items fresh (record { keys = keys; pile = [] }) in
      go q.1.pile (agree (stage_of ts (old ++ q.0)))
      (agree_after (stage admit ts (old ++ q.0)) (stage yes ts (old ++ q.0)) _ _ (agree (stage_of ts (old ++ q.0))) (λ g.
      agree_after (drain G q.1.pile) (drain G q.1.pile) _ _ (inl refl) (λ new.
      agree_after (stage admit g.atoms (old ++ q.0 ++ new)) (stage yes g.atoms (old ++ q.0 ++ new)) _ _ (agree (stage_of g.atoms (old ++ q.0 ++ new))) (λ h.
      rounds_agree G l h.atoms (old ++ q.0) new q.1.keys))))
    where
      go : (p : List Pending) {x y x' y' : Outcome Stage} → Agrees x y → Agrees x' y' → Agrees (or_more p x x') (or_more p y y')
      go [] a b = a
      go (z ∷ zs) a b = b

  pub stages_agree : (l : ℕ) (g : Stage) → Agrees (all_stages admit l g) (all_stages yes l g)
  unfolding all_stages resolve_stage level_stage macro_stages
  stages_agree l g =
      agree_after (resolve_stage admit g) (resolve_stage yes g) _ _ (agree_after (resolve g.items) (resolve g.items) _ _ (inl refl) (λ R. agree (stage_of g.atoms R))) (λ r.
      agree_after (level_stage admit r) (level_stage yes r) _ _ (agree_after (levels r.items) (levels r.items) _ _ (inl refl) (λ L. agree (stage_of r.atoms L))) (λ s.
      agree_after (resolve s.items) (resolve s.items) _ _ (inl refl) (λ L. rounds_agree L l s.atoms [] (without_macros L) [])))

-- ---- the call for all
module _ (four : Bool) (w : ℕ) (tape : List ℕ) where
  pub record Opened (cap work : ℕ) (u : Stage) : Type 0 where
    pub room : leb (8 * (length tape + cap)) work ≡ true
    pub end : ℕ
    pub decoded : read_tape four w tape ≡ got u end

  pub opened : (cap work : ℕ) (u : Stage) → validate_call four w tape cap work ≡ yes u → Opened cap work u
  unfolding validate_call
  opened cap work u e = go (leb (8 * (length tape + cap)) work) refl (read_tape four w tape) refl e
    where
      go : (b : Bool) → leb (8 * (length tape + cap)) work ≡ b → (r : Reading Stage) → read_tape four w tape ≡ r → cond b (read_as r) (no 1 nowhere) ≡ yes u → Opened cap work u
      go true p (got h n) q z = record { room = p; end = n; decoded = q ∙ ap (λ (x : Stage). got x n) (yes_inj h u z) }
      go true p (refused n k) q z = absurd (no≢yes n _ u z)
      go false p r q z = absurd (no≢yes 1 nowhere u z)

  -- "With the same tape, any higher limit, an output buffer no shorter and work that passes question 1, the call gives a yes with the same length
  -- and the same tree bytes": the same stage, and so both
  pub whole_higher : (l l' cap cap' work work' : ℕ) (g : Stage) → l ≤ l' → cap ≤ cap' → 8 * (length tape + cap') ≤ work'
      → whole four w tape l cap work ≡ yes g → whole four w tape l' cap' work' ≡ yes g
  unfolding whole validate_call
  whole_higher l l' cap cap' work work' g h c b e =
      let (u, eu, e1) = after-yes (validate_call four w tape cap work) (all_stages (sizes w cap) l) g e in
      let o = opened cap work u eu in
      let v : validate_call four w tape cap' work' ≡ yes u = cc (le-leb (8 * (length tape + cap')) work' b, o.decoded) in
      after_is (validate_call four w tape cap' work') (all_stages (sizes w cap') l') u g v (stages_more (sizes w cap) (sizes w cap') (sizes-more w cap cap' c) l l' h u g e1)
