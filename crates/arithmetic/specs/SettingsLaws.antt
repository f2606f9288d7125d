-- What accepted settings give: alignments that are positive and at most 65,536, L a multiple of M and R, a bounce buffer that holds 2Z + 2L
-- bytes; and what an opening that is not refused gives. Assumes nothing.
use Rattle.std.specs.Prelude.{◌≡◌, refl, Bool, true, false, ◌&&◌, ℕ, ◌+◌, ◌*◌, ◌%◌, ◌^◌, ◌<◌, ◌≤◌, eqb, leb, Ok, Err}
use Rattle.std.proofs.Common.{arith, pow_mono, pow_pos, eqb-true, leb-true}
use Rattle.arithmetic.specs.Powers.{is_power_to}
use Rattle.arithmetic.specs.PowerLaws.{exponent, greater}
use Rattle.arithmetic.specs.Rounding.{pick, fits, is_multiple}
use Rattle.arithmetic.specs.Settings.{is_alignment, alignments_fit, length_align, bounce_fits, settings_fit, buffers_fit, opening_of}
use Rattle.arithmetic.specs.declared.refusals.Refusal.TheVariants.{Unfit, Buffer}
use Rattle.arithmetic.specs.declared.settings.Alignments.{Alignments}
use Rattle.arithmetic.specs.declared.settings.Settings.{Settings}
use Rattle.arithmetic.specs.declared.settings.Buffers.{Buffers}

pub and_left : (a b : Bool) → (a && b) ≡ true → a ≡ true
and_left true b e = refl
and_left false b e = e

pub and_right : (a b : Bool) → (a && b) ≡ true → b ≡ true
and_right true b e = e
and_right false b e = let z : ◌≡◌ {A = Bool} false true = e in cc

pub both : (a b : Bool) → a ≡ true → b ≡ true → (a && b) ≡ true
both a b p q = rw (p, q)

-- an alignment is one of 1 to 65,536
pub record Power (x : ℕ) : Type 0 where
  pub is : is_power_to 16 x ≡ true
  pub positive : 0 < x
  pub most : x ≤ 65536

pub power_of : (x : ℕ) → is_alignment x ≡ true → Power x
unfolding is_alignment
power_of x e =
    let k = exponent 16 x e in
    let p : 0 < 2 ^ k.k = pow_pos k.k in
    let m : 2 ^ k.k ≤ 2 ^ 16 = pow_mono k.most in
    record { is = e; positive = omega (arith, k.is); most = omega (arith, k.is) }

-- alignments that opening accepts
pub record Aligned (a : Alignments) : Type 0 where
  pub mem : Power a.mem
  pub req : Power a.req
  pub zero : Power a.zero
  pub discard : Power a.discard
  pub positive : 0 < length_align a
  pub most : length_align a ≤ 65536
  pub req_le : a.req ≤ length_align a
  pub of_mem : length_align a % a.mem ≡ 0
  pub of_req : length_align a % a.req ≡ 0

pub aligned : (a : Alignments) → alignments_fit a ≡ true → Aligned a
unfolding alignments_fit length_align
aligned a e =
    let m = is_alignment a.mem in
    let r = is_alignment a.req in
    let z = is_alignment a.zero in
    let d = is_alignment a.discard in
    let mrz = and_left (m && r && z) d e in
    let mr = and_left (m && r) z mrz in
    let pm = power_of a.mem (and_left m r mr) in
    let pr = power_of a.req (and_right m r mr) in
    let g = greater 16 a.mem a.req pm.is pr.is in
    record {
      mem = pm;
      req = pr;
      zero = power_of a.zero (and_right (m && r) z mrz);
      discard = power_of a.discard (and_right (m && r && z) d e);
      positive = omega (arith, pm.positive);
      most = omega (arith, pm.most, pr.most);
      req_le = omega arith;
      of_mem = g.0;
      of_req = g.1;
    }

-- settings that opening accepts
pub record Accepted (s : Settings) : Type 0 where
  pub align : Aligned s.align
  pub whole : s.bounce % length_align s.align ≡ 0
  pub least : 2 * s.align.zero + 2 * length_align s.align ≤ s.bounce
  pub most : s.bounce ≤ 1048576
  pub positive : 0 < s.bounce

pub accepted : (s : Settings) → settings_fit s ≡ true → Accepted s
unfolding settings_fit bounce_fits is_multiple
accepted s e =
    let a = alignments_fit s.align in
    let w = eqb (s.bounce % length_align s.align) 0 in
    let l = leb (2 * s.align.zero + 2 * length_align s.align) s.bounce in
    let h = leb s.bounce 1048576 in
    let r = and_right a (w && l && h) e in
    let wl = and_left (w && l) h r in
    let k = aligned s.align (and_left a (w && l && h) e) in
    let m = leb-true (2 * s.align.zero + 2 * length_align s.align) s.bounce (and_right w l wl) in
    record {
      align = k;
      whole = eqb-true _ _ (and_left w l wl);
      least = m;
      most = leb-true _ _ (and_right (w && l) h r);
      positive = omega (arith, k.positive);
    }

-- an opening that is not refused: fit settings, and a scratch of eight shares
pub record Openable (s : Settings) (b : Buffers) : Type 0 where
  pub fit : settings_fit s ≡ true
  pub room : 8 * s.bounce ≤ b.scratch.length

pub opened : (s : Settings) (b : Buffers) → opening_of s b ≡ Ok (tt {0}) → Openable s b
unfolding opening_of buffers_fit
opened s b e = go (settings_fit s) (buffers_fit s b) refl refl e
  where
    go : (x y : Bool) → settings_fit s ≡ x → buffers_fit s b ≡ y → pick x (pick y (Ok (tt {0})) (Err Buffer)) (Err Unfit) ≡ Ok (tt {0})
        → Openable s b
    go true true f q e =
        let t1 = fits (b.«data».address + b.«data».length) in
        let t2 = fits (b.scratch.address + b.scratch.length) in
        let t3 = leb (8 * s.bounce) b.scratch.length in
        let t4 = is_multiple b.scratch.address s.align.mem in
        record { fit = f; room = leb-true (8 * s.bounce) b.scratch.length (and_right (t1 && t2) t3 (and_left (t1 && t2 && t3) t4 q)) }
    go true false f q e = let z : ◌≡◌ {A = ℕ} 0 1 = cc in absurd (omega arith)
    go false y f q e = let z : ◌≡◌ {A = ℕ} 0 1 = cc in absurd (omega arith)
