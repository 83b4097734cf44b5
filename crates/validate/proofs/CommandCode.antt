-- The ways out of `command`, its answers taken apart, and the loop of `commands`. Assumes nothing.
use mathlib.Core.Path.{◌≡◌, refl, sym, ap, subst, ◌∙◌}
use mathlib.Core.Bool.{Bool, true, false, not, ◌&&◌}
use mathlib.Core.List.{List, ◌∷◌}
use Prim.Native.Nat.{ℕ, ◌+◌, ◌<◌, ◌≤◌, zero, suc, ◌-◌}
use native.Mathlib.Omega.{arith}
use borrow.Author.Rules.{rules}
use borrow.Author.Tests.{le-leb, lt-leb, leb-true, leb-false, not-true, not-false}
use lib.Dec.{leb}
use lib.ListN.{length}
use Rattle.octets.specs.Working.Choice.{pick}
use Rattle.parse_tree.specs.Working.Nodes.{node_at, size_of}
use Rattle.parse_tree.specs.Working.Places.{class_of, allowed_at}
use Rattle.parse_tree.specs.Working.Questions.{defined, suits}
use Rattle.parse_tree.specs.Plain.Reading.{Reading, got, refused, then, times}
use Rattle.parse_tree.specs.Working.Decode.{ask_of, ask}
use Rattle.parse_tree.specs.Working.Refusals.{refusal_at}
use Rattle.parse_tree.specs.declared.refusal.Refusal.{Refusal}
use Rattle.parse_tree.specs.declared.syntax.Node.{Node}
use Rattle.texts.specs.Atoms.{atoms_of}
use Rattle.texts.proofs.AtomsLaws.{length_atoms}
use Rattle.validate.specs.Steps.{asked_of, step_of, Refuses}
use Rattle.validate.specs.Quick.{PassedCommand}
use Rattle.validate.specs.declared.Atoms.{Atoms}
use Rattle.std.specs.Prelude.{Option, Some, None, Result, Ok, Err}

-- ---- no command stands there
module _ (four : Bool) (s : List ℕ) (w atoms place left at : ℕ) (y : Option Node) (p : y ≡ node_at w s at) where
  pub not_known : (z : Refusal) → z ≡ refusal_at 2 at → y ≡ None → Err z ≡ asked_of (ask four w s (atoms_of s atoms) place left at)
  unfolding ask ask_of asked_of
  not_known z e h = let q : node_at w s at ≡ None = sym p ∙ h in ap Err e ∙ simp q

-- ---- n is the command, c its class, o whether it may stand there
module _ (four : Bool) (s : List ℕ) (w atoms place left at : ℕ) (y : Option Node) (p : y ≡ node_at w s at) (n : Node) (t : y ≡ Some n) (c : ℕ) (q : c ≡ class_of n) (o : Bool) (r : o ≡ allowed_at place c) where
  here : node_at w s at ≡ Some n
  here = sym p ∙ t

  o_is : o ≡ allowed_at place (class_of n)
  o_is = r ∙ ap (allowed_at place) q

  pub not_allowed : (z : Refusal) → z ≡ refusal_at 2 at → not o ≡ true → Err z ≡ asked_of (ask four w s (atoms_of s atoms) place left at)
  unfolding ask ask_of pick asked_of
  not_allowed z e h = ap Err e ∙ simp (here, ← o_is, not-true o h)

  -- d is whether its operands are defined
  module _ (h : not o ≡ false) (d : Bool) (x : d ≡ defined atoms n) where
    d_is : d ≡ defined (length (atoms_of s atoms)) n
    d_is = x ∙ ap (λ (k : ℕ). defined k n) (sym (length_atoms s atoms))

    pub not_defined : (z : Refusal) → z ≡ refusal_at 3 at → not d ≡ true → Err z ≡ asked_of (ask four w s (atoms_of s atoms) place left at)
    unfolding ask ask_of pick asked_of
    not_defined z e g = ap Err e ∙ simp (here, ← o_is, not-false o h, ← d_is, not-true d g)

    pub too_deep : (z : Refusal) → z ≡ refusal_at 3 at → not d ≡ false → left < 1 → Err z ≡ asked_of (ask four w s (atoms_of s atoms) place left at)
    unfolding ask ask_of pick asked_of
    too_deep z e g k = ap Err e ∙ simp (here, ← o_is, not-false o h, ← d_is, not-false d g, lt-leb 1 left k)

    -- u is whether its texts suit
    module _ (g : not d ≡ false) (k : 1 ≤ left) (u : Bool) (v : u ≡ pick four (suits (atoms_of s atoms) n) true) where
      pub not_suited : (z : Refusal) → z ≡ refusal_at 4 at → not u ≡ true → Err z ≡ asked_of (ask four w s (atoms_of s atoms) place left at)
      unfolding ask ask_of pick asked_of
      not_suited z e f = ap Err e ∙ simp (here, ← o_is, not-false o h, ← d_is, not-false d g, le-leb 1 left k, ← v, not-true u f)

      pub asked_is : (z : ℕ) → not u ≡ false → z ≡ size_of w n → Ok (n, at + z) ≡ asked_of (ask four w s (atoms_of s atoms) place left at)
      unfolding ask ask_of pick asked_of
      asked_is z f e = rw e (simp (here, ← o_is, not-false o h, ← d_is, not-false d g, le-leb 1 left k, ← v, not-false u f))

-- a command that is known begins inside
pub asked_inside : (s : List ℕ) (w at : ℕ) (y : Option Node) → y ≡ node_at w s at → (n : Node) → y ≡ Some n → at < length s
unfolding node_at pick
asked_inside s w at y p n t = go (leb (length s) at) refl
  where
    go : (b : Bool) → leb (length s) at ≡ b → at < length s
    go true e =
        let u : None ≡ Some n = sym (p ∙ simp e) ∙ t in
        absurd (let z : ◌≡◌ {A = ℕ} 0 1 = cc in omega arith)
    go false e = omega (arith, leb-false (length s) at e)

-- a command that was read may stand there, with a level of nesting left
pub record Stands (place left : ℕ) (n : Node) : Type 0 where
  pub allowed : allowed_at place (class_of n) ≡ true
  pub deep : 0 < left

pub stands : (four : Bool) (s : List ℕ) (w atoms place left at : ℕ) (n : Node) (e : ℕ) → ask four w s (atoms_of s atoms) place left at ≡ got n e → Stands place left n
unfolding ask ask_of pick
stands four s w atoms place left at n e h = known (node_at w s at) h
  where
    go : (x : Node) (a : Bool) → allowed_at place (class_of x) ≡ a → (d l : Bool) → leb 1 left ≡ l → (u : Bool)
        → pick a (pick (d && l) (pick u (got x (at + size_of w x)) (refused 4 at)) (refused 3 at)) (refused 2 at) ≡ got n e → Stands place left n
    go x true p true true q true z =
        let i : x ≡ n = cc in
        record { allowed = sym (ap (λ (y : Node). allowed_at place (class_of y)) i) ∙ p; deep = leb-true 1 left q }
    go x true p true true q false z = cc
    go x true p true false q u z = cc
    go x true p false l q u z = cc
    go x false p d l q u z = cc

    known : (y : Option Node) → ask_of four w s (atoms_of s atoms) place left at y ≡ got n e → Stands place left n
    known None z = cc
    known (Some x) z = go x (allowed_at place (class_of x)) refl (defined (length (atoms_of s atoms)) x) (leb 1 left) refl (pick four (suits (atoms_of s atoms) x) true) z

pub ruleset commanding = (rules, not_known, not_allowed, not_defined, too_deep, not_suited, asked_is)

-- ---- an answer, taken apart
pub asked_got : (r : Reading Node) (n : Node) (e : ℕ) → Ok (n, e) ≡ asked_of r → r ≡ got n e
unfolding asked_of
asked_got (got m d) n e h = let p : (n, e) ≡ (m, d) = cc in ap (λ (x : Node × ℕ). got x.0 x.1) (sym p)
asked_got (refused k p) n e h = absurd (let z : ◌≡◌ {A = ℕ} 0 1 = cc in omega arith)

pub refuses_as : {A : Type 0} (r : Reading A) (k p : ℕ) (z : Refusal) → z ≡ refusal_at k p → r ≡ refused k p → Refuses r z
unfolding refusal_at
refuses_as r k p z e h = record { is = h ∙ ap (λ (y : Refusal). refused y.number y.from) (sym e); twice = ap (λ (y : Refusal). y.to) e ∙ sym (ap (λ (y : Refusal). y.from) e) }

pub asked_refused : (r : Reading Node) (z : Refusal) → Err z ≡ asked_of r → Refuses r z
unfolding asked_of
asked_refused (got m d) z h = absurd (let n : ◌≡◌ {A = ℕ} 0 1 = cc in omega arith)
asked_refused (refused k p) z h = let e : z ≡ refusal_at k p = cc in refuses_as (refused k p) k p z e refl

pub step-refused : {A : Type 0} (r : Reading A) (z : Refusal) → Err z ≡ step_of r → Refuses r z
unfolding step_of
step-refused (got m d) z h = absurd (let n : ◌≡◌ {A = ℕ} 0 1 = cc in omega arith)
step-refused (refused k p) z h = let e : z ≡ refusal_at k p = cc in refuses_as (refused k p) k p z e refl

-- and put together again
pub refuses_step : {A : Type 0} (r : Reading A) (z : Refusal) → Refuses r z → Err z ≡ step_of r
unfolding step_of refusal_at
refuses_step r z h = ap (λ (n : ℕ). Err (record { number = z.number; from = z.from; to = n })) h.twice ∙ sym (ap step_of h.is)

-- what was read, where it is not told
pub record Read {A : Type 0} (r : Reading A) (e : ℕ) : Type 0 where
  pub value : A
  pub is : r ≡ got value e

pub step-got : {A : Type 0} (r : Reading A) (e : ℕ) → Ok e ≡ step_of r → Read r e
unfolding step_of
step-got (got m d) e h = record { value = m; is = cc }
step-got (refused j q) e h = absurd (let z : ◌≡◌ {A = ℕ} 0 1 = cc in omega arith)

-- ---- one reading behind another
pub then_is : {A B : Type 0} (m : Reading A) (f : A → ℕ → Reading B) (x : A) (e : ℕ) → m ≡ got x e → then m f ≡ f x e
unfolding then
then_is {A = A} m f x e q = ap (λ (r : Reading A). then r f) q

pub then-no : {A B : Type 0} (m : Reading A) (f : A → ℕ → Reading B) (k p : ℕ) → m ≡ refused k p → then m f ≡ refused k p
unfolding then
then-no {A = A} m f k p q = ap (λ (r : Reading A). then r f) q

pub refuses_then : {A B : Type 0} (m : Reading A) (f : A → ℕ → Reading B) (z : Refusal) → Refuses m z → Refuses (then m f) z
refuses_then m f z h = record { is = then-no m f z.number z.from h.is; twice = h.twice }

pub step_then : {A B : Type 0} (t : Reading A) (g : A → B) → step_of (then t (λ y e. got (g y) e)) ≡ step_of t
unfolding then step_of
step_then (got y e) g = refl
step_then (refused k p) g = refl

-- ---- readings in turn: k are to come from p on, and x is what all of them say
module _ {A : Type 0} (f : ℕ → Reading A) (k p : ℕ) (x : Result ℕ Refusal) (inv : step_of (times f k p) ≡ x) where
  pub times_none : k ≤ 0 → Ok p ≡ x
  unfolding times step_of
  times_none h = let z : k ≡ 0 = omega arith in rw z at inv

  opened : 0 < k → times f k p ≡ then (f p) (λ y e. then (times f (k - 1) e) (λ ys e'. got (y ∷ ys) e'))
  unfolding times
  opened h = go k refl
    where
      go : (j : ℕ) → k ≡ j → times f j p ≡ then (f p) (λ y e. then (times f (k - 1) e) (λ ys e'. got (y ∷ ys) e'))
      go zero e = absurd (omega arith)
      go (suc j) e = let z : j ≡ k - 1 = omega arith in rw z

  pub times-next : (e j : ℕ) → Ok e ≡ step_of (f p) → k ≡ j + 1 → step_of (times f j e) ≡ x
  times-next e j q h =
      let r = step-got (f p) e q in
      let o : times f k p ≡ then (times f (k - 1) e) (λ ys e'. got (r.value ∷ ys) e') = opened (omega arith) ∙ then_is (f p) (λ y e. then (times f (k - 1) e) (λ ys e'. got (y ∷ ys) e')) r.value e r.is in
      let b : step_of (times f (k - 1) e) ≡ x = sym (step_then (times f (k - 1) e) (λ ys. r.value ∷ ys)) ∙ sym (ap step_of o) ∙ inv in
      let n : k - 1 ≡ j = omega arith in
      subst (λ (v : ℕ). step_of (times f v e) ≡ x) n b

  pub times-stop : (z : Refusal) → Err z ≡ step_of (f p) → 0 < k → Err z ≡ x
  times-stop z r h =
      let o = refuses_then (f p) (λ y e. then (times f (k - 1) e) (λ ys e'. got (y ∷ ys) e')) z (step-refused (f p) z r) in
      refuses_step _ z o ∙ sym (ap step_of (opened h)) ∙ inv

-- ---- `commands`
module _ (four : Bool) (s : List ℕ) (w atoms place k p : ℕ) (x : Result ℕ Refusal) (inv : step_of (times (ask four w s (atoms_of s atoms) place 1) k p) ≡ x) (r : Result (Node × ℕ) Refusal) (i : r ≡ asked_of (ask four w s (atoms_of s atoms) place 1 p)) where
  pub commands_next : (y : Node × ℕ) (j : ℕ) → r ≡ Ok y → k ≡ j + 1 → step_of (times (ask four w s (atoms_of s atoms) place 1) j y.1) ≡ x
  unfolding step_of
  commands_next y j q h =
      let z = asked_got (ask four w s (atoms_of s atoms) place 1 p) y.0 y.1 (sym q ∙ i) in
      times-next (ask four w s (atoms_of s atoms) place 1) k p x inv y.1 j (rw z) h

  pub commands_stop : (z : Refusal) → r ≡ Err z → 0 < k → Err z ≡ x
  commands_stop z u h =
      let n = asked_refused (ask four w s (atoms_of s atoms) place 1 p) z (sym u ∙ i) in
      times-stop (ask four w s (atoms_of s atoms) place 1) k p x inv z (refuses_step _ z n) h

pub commands_none : (four : Bool) (s : List ℕ) (w atoms place k p : ℕ) (x : Result ℕ Refusal) → step_of (times (ask four w s (atoms_of s atoms) place 1) k p) ≡ x → k ≤ 0 → Ok p ≡ x
commands_none four s w atoms place k p x inv h = times_none (ask four w s (atoms_of s atoms) place 1) k p x inv h

-- f is what the quick look answered
pub commands_quick : (s : List ℕ) (m : Atoms) (place k p f : ℕ) (x : Result ℕ Refusal) → step_of (times (ask m.four m.width.bytes s (atoms_of s m.texts.count) place 1) k p) ≡ x → PassedCommand s m place p f → (j : ℕ) → k ≡ j + 1
    → step_of (times (ask m.four m.width.bytes s (atoms_of s m.texts.count) place 1) j f) ≡ x
unfolding step_of
commands_quick s m place k p f x inv g j l = times-next (ask m.four m.width.bytes s (atoms_of s m.texts.count) place 1) k p x inv f j (rw g.asked) l

pub ruleset commands = (rules, commands_next, commands_stop, commands_none, commands_quick)
