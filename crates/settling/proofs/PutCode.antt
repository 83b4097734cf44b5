-- The ways out of put_slice, put_inside and escape. Assumes nothing.
use mathlib.Core.Path.{◌≡◌, refl, sym, ap, ◌∙◌}
use mathlib.Core.Logic.{◌⊎◌, inl, inr}
use mathlib.Core.List.{List, [], ◌∷◌, ◌++◌}
use Prim.Native.Nat.{ℕ, ◌+◌, ◌-◌, ◌<◌, ◌≤◌}
use native.Mathlib.Omega.{arith}
use borrow.Author.Rules.{rules}
use borrow.Author.Tests.{ne_eqb}
use lib.ListN.{length, get_or}
use lib.Seq.{take_all}
use Rattle.octets.specs.Plain.Runs.{part}
use Rattle.octets.proofs.PartLaws.{part_none, part-one}
use Rattle.parse_tree.specs.Plain.Tree.{Text}
use Rattle.parse_tree.specs.Plain.Display.{escaped}
use Rattle.display.proofs.StandsLaws.{escaped-one}
use Rattle.precedence.specs.Write.{Puts}
use Rattle.settling.specs.Escape.{StaysFrom}
use Rattle.precedence.proofs.WriteLaws.{puts_beside, puts_none}
use Rattle.settling.proofs.PutLaws.{puts_stop, then, puts_as}

-- ---- put_slice
pub part_all : (t : List ℕ) → part 0 (length t) t ≡ t
unfolding part
part_all t = take_all (length t - 0) t (omega arith)

-- ---- put_inside
module _ (w : List ℕ) (b lim to r : ℕ) (w2 : List ℕ) where
  pub inside_marked : (q : ℕ) (w1 : List ℕ) → (b ≡ 34) ⊎ (b ≡ 92) → Puts w lim to (92 ∷ []) q w1 → Puts w1 lim q (b ∷ []) r w2 → Puts w lim to (escaped (b ∷ []) []) r w2
  unfolding escaped
  inside_marked q w1 (inl e) a c = let z = rw e at (then a c) in rw e z
  inside_marked q w1 (inr e) a c = let z = rw e at (then a c) in rw e z

  pub inside_plain : ((b ≡ 34) ⊎ (b ≡ 92) → ⊥) → Puts w lim to (b ∷ []) r w2 → Puts w lim to (escaped (b ∷ []) []) r w2
  unfolding escaped
  inside_plain n c = rw (ne_eqb b 34 (λ e. n (inl e)), ne_eqb b 92 (λ e. n (inr e))) c

pub ruleset quoting = (rules, inside_marked, inside_plain)

-- ---- escape: of src the bytes from i up to e are left
pub record Escaping (src w : List ℕ) (a e lim to : ℕ) (out : List ℕ) (i q : ℕ) : Type 0 where
  pub carry : (r : ℕ) (w1 : List ℕ) → Puts out lim q (escaped (part i e src) []) r w1 → Puts w lim to (escaped (part a e src) []) r w1

module _ (src w : List ℕ) (a e lim to : ℕ) (out : List ℕ) (i q : ℕ) (g : Escaping src w a e lim to out i q) (l : e ≤ length src) where
  escape_next : (b r : ℕ) (w1 : List ℕ) → i < e → b ≡ get_or src i 0 → Puts out lim q (escaped (b ∷ []) []) r w1 → Escaping src w a e lim to w1 (i + 1) r
  escape_next b r w1 h j p =
      let z : part i e src ≡ b ∷ part (i + 1) e src = part-one i e src h l ∙ ap (λ (x : ℕ). x ∷ part (i + 1) e src) (sym j) in
      let y : escaped (b ∷ []) [] ++ escaped (part (i + 1) e src) [] ≡ escaped (part i e src) [] = sym (escaped-one b (part (i + 1) e src)) ∙ ap (λ (t : Text). escaped t []) (sym z) in
      record { carry = λ r2 w2 d. g.carry r2 w2 (puts_as y (then p d)) }

  escape_done : e ≤ i → q ≤ lim + 1 → Puts w lim to (escaped (part a e src) []) q out
  unfolding escaped
  escape_done h k =
      let z : [] ≡ escaped (part i e src) [] = ap (λ (t : Text). escaped t []) (sym (part_none i e src h)) in
      g.carry q out (puts_as z (puts_none out lim q k))

-- whatever the list is whose bytes are told; R are the references to work
module _ {R : Type 0} (now : R → List ℕ) (Post : R → ℕ → ℕ → Type 0) (w : List ℕ) (a e lim to : ℕ) where
  pub record Telling (out : List ℕ) (i q : ℕ) : Type 0 where
    pub stays : StaysFrom lim w out
    pub from : a ≤ i
    pub stop : q ≤ lim + 1
    pub each : (s : List ℕ) → e ≤ length s → ((x : R) (i b : ℕ) → StaysFrom lim w (now x) → a ≤ i → i < e → Post x i b → b ≡ get_or s i 0) → Escaping s w a e lim to out i q

  pub telling_start : to ≤ lim + 1 → Telling w a to
  telling_start h = record { stays = record { long = refl; kept = λ k l. refl }; from = omega arith; stop = h; each = λ s l t. record { carry = λ r w1 p. p } }

  module _ (out : List ℕ) (i q : ℕ) (g : Telling out i q) where
    pub telling_next : (x : R) (b r : ℕ) (w1 : List ℕ) → i < e → now x ≡ out → Post x i b → Puts out lim q (escaped (b ∷ []) []) r w1 → Telling w1 (i + 1) r
    telling_next x b r w1 h j f p = record {
      stays = record {
        long = p.long ∙ g.stays.long;
        kept = λ k l. puts_beside out w1 lim q (escaped (b ∷ []) []) r p k (inr l) ∙ g.stays.kept k l;
      };
      from = omega (arith, g.from);
      stop = puts_stop out lim q (escaped (b ∷ []) []) r w1 p;
      each = λ s l t. escape_next s w a e lim to out i q (g.each s l t) l b r w1 h (t x i b (rw j g.stays) g.from h f) p;
    }

    pub telling_done : e ≤ i → (s : List ℕ) → e ≤ length s → ((x : R) (i b : ℕ) → StaysFrom lim w (now x) → a ≤ i → i < e → Post x i b → b ≡ get_or s i 0) → Puts w lim to (escaped (part a e s) []) q out
    telling_done h s l t = escape_done s w a e lim to out i q (g.each s l t) l h g.stop
