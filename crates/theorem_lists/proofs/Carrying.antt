-- A request that is carried out keeps the invariant: on both sides the same bytes change, a read's share or segments hold what it yielded, and no other slot is touched. Assumes nothing.
use Rattle.std.specs.Prelude.{Option, Some, None}
use Rattle.std.specs.Prelude.{Result, Ok, Err}
use mathlib.Core.Path.{◌≡◌, refl, sym, ap, ◌∙◌}
use mathlib.Core.Bool.{Bool, true, false, ◌||◌}
use mathlib.Core.Logic.{⊎_elim, ◌≢◌}
use mathlib.Core.List.{List, [], ◌∷◌, ◌++◌}
use Prim.Native.Nat.{ℕ, zero, suc, ◌+◌, ◌<◌, ◌≤◌}
use native.Mathlib.Omega.{arith}
use lib.Dec.{ltb}
use lib.ListN.{length, get_or, take, drop}
use lib.Seq.{take-nil, drop-drop, get_or-drop}
use borrow.Author.Tests.{lt-ltb, le-leb, ltb-true}
use Rattle.arithmetic.specs.Rounding.{pick}
use Rattle.arithmetic.specs.SettingsLaws.{and_left, and_right}
use Rattle.arithmetic.specs.Content.{Bytes}
use Rattle.arithmetic.specs.declared.refusals.Refusal.TheVariants.{Buffer, Slot}
use Rattle.arithmetic.specs.declared.offsets.Range.{Range}
use Rattle.vectors.specs.Vectors.{segment, none as noSegment, lies_in, all_segments, segments_of, bytes_of, scatter_of, put, is_valid, overlap_of}
use Rattle.vectors.specs.SegmentLaws.{lies}
use Rattle.vectors.specs.OverlapLaws.{or_cases, overlap_sym}
use Rattle.vectors.specs.declared.vector.Segment.{Segment}
use Rattle.vectors.specs.declared.vector.IoVector.{IoVector}
use Rattle.blockers.specs.Blockers.{waits_of}
use Rattle.stages.specs.Stages.{size_of, is_free, has_ended, is_pending, is_blocking, request_of}
use Rattle.stages.specs.declared.state.Phase.{Phase}
use Rattle.stages.specs.declared.state.Course.{Course}
use Rattle.stages.specs.declared.state.Course.TheVariants.{Last, Middle, Head, Chunks}
use Rattle.stages.specs.declared.state.Request.{Request}
use Rattle.stages.specs.declared.state.State.{State}
use Rattle.dock.specs.Dock.{state_at, vector_at, lent_fits, is_out_by, is_out, share_at, is_read_job}
use Rattle.dock.specs.Begin.{is_write_job}
use Rattle.dock.specs.Next.{next_of, in_data, in_scratch, piece_by, piece_of, part_of}
use Rattle.dock.specs.declared.next.Due.TheVariants.{Waiting, Make, Answer}
use Rattle.dock.specs.declared.next.Piece.{Piece}
use Rattle.dock.specs.declared.next.Piece.TheVariants.{InData, InScratch}
use Rattle.stages.specs.Laws.{never}
use Rattle.theorem_lists.specs.Courses.{has_vector}
use Rattle.theorem_lists.specs.MadeLaws.{sound_held}
use Rattle.theorem_lists.specs.Store.{pieces_from, gathered, landed}
use Rattle.theorem_lists.specs.PlainStore.{Did, Tracked, Plain, put_job, put_bytes, with_steps}
use Rattle.theorem_lists.specs.Histories.{World, unless, made, out_in, put_by, acted}
use Rattle.theorem_lists.proofs.Progress.{Before}
use Rattle.theorem_lists.proofs.Invariant.{share, Fact}
use Rattle.theorem_lists.proofs.World.{Taken, Tracks, Inv}
use Rattle.theorem_lists.proofs.Renewing.{set_same, set_other, renewed_inv}
use Rattle.arithmetic.specs.declared.refusals.Refusal.{Refusal}

-- ---- which request is out

pub record Out (w : World) (p : ℕ) (q : Request) : Type 0 where
  pub slot : p < 8
  pub once : w.carried p ≡ None
  pub pending : is_pending (state_at w.dock p).phase ≡ true
  pub free : waits_of p w.dock.blockers ≡ false
  pub is : q ≡ request_of (state_at w.dock p) (vector_at w.dock p).count

module _ (w : World) (p : ℕ) (q : Request) where
  pub out_of : out_in w p ≡ Some q → Out w p q
  unfolding next_of
  out_of e =
      go (w.carried p) (lent_fits w.dock.buffers (length w.memory) (length w.scratch)) (ltb p 8) (is_free (state_at w.dock p).phase) (has_ended (state_at w.dock p).phase) (waits_of p w.dock.blockers)
      refl refl refl refl refl e
    where
      x : State
      x = state_at w.dock p

      r : Request
      r = request_of (state_at w.dock p) (vector_at w.dock p).count

      clash : {A : Type 0} → ◌≡◌ {A = Option Request} None (Some q) → A
      clash e = let z : ◌≡◌ {A = ℕ} 0 1 = cc in absurd (omega arith)

      go : (o : Option ℕ) (a b c f g : Bool) → w.carried p ≡ o → ltb p 8 ≡ b → is_free x.phase ≡ c → has_ended x.phase ≡ f → waits_of p w.dock.blockers ≡ g
          → unless o (made (pick a (pick b (pick c (Err Slot) (pick f (Ok (Answer x.answer)) (pick g (Ok Waiting) (Ok (Make r))))) (Err Slot)) (Err Buffer))) ≡ Some q → Out w p q
      go (Some n) a b c f g i k l m n' e = clash e
      go None false b c f g i k l m n e = clash e
      go None true false c f g i k l m n e = clash e
      go None true true true f g i k l m n e = clash e
      go None true true false true g i k l m n e = clash e
      go None true true false false true i k l m n e = clash e
      go None true true false false false i k l m n e = record { slot = ltb-true p 8 k; once = i; pending = rw (l, m); free = n; is = cc }

-- ---- its pieces

-- k segments of a vector, in order, as pieces of the data
abbrev pub data_pieces : List Segment → ℕ → List (Result Piece Refusal)
data_pieces l zero = []
data_pieces l (suc k) = (Ok (InData (get_or l 0 noSegment))) ∷ data_pieces (drop 1 l) k

pub landed_data : (k : ℕ) (l : List Segment) (bs memory scratch : List ℕ) → landed (data_pieces l k) bs memory scratch ≡ record { memory = scatter_of memory (take k l) bs; scratch = scratch }
unfolding landed scatter_of put
landed_data zero l bs memory scratch = refl
landed_data (suc k) [] bs memory scratch = landed_data k [] bs memory scratch ∙ ap (λ (t : List Segment). record { memory = scatter_of memory t bs; scratch = scratch }) (take-nil k)
landed_data (suc k) (g ∷ l) bs memory scratch = landed_data k l (drop g.length bs) (put memory g.start (take g.length bs)) scratch

pub gathered_data : (k : ℕ) (l : List Segment) (memory scratch : List ℕ) → all_segments (lies_in (length memory)) (take k l) ≡ true → gathered (data_pieces l k) memory scratch ≡ bytes_of memory (take k l)
unfolding gathered bytes_of part_of all_segments
gathered_data zero l memory scratch e = refl
gathered_data (suc k) [] memory scratch e = simp (le-leb 0 (length memory) (omega arith)) (gathered_data k [] memory scratch (rw (take-nil {A = Segment} k) refl) ∙ ap (bytes_of memory) (take-nil k))
gathered_data (suc k) (g ∷ l) memory scratch e =
    let z = lies (length memory) g (and_left (lies_in (length memory) g) _ e) in
    simp (le-leb (g.start + g.length) (length memory) z.ends) (ap (λ (t : List ℕ). take g.length (drop g.start memory) ++ t) (gathered_data k l memory scratch (and_right (lies_in (length memory) g) _ e)))

module _ (w : World) (m : Plain) (I : Inv w m) (p : ℕ) (q : Request) (O : Out w p q) where
  abbrev x : State
  x = state_at w.dock p

  abbrev v : IoVector
  v = vector_at w.dock p

  piece_is : (i : ℕ) → piece_of w.dock p i (length w.memory) (length w.scratch) ≡ piece_by x.phase (share_at w.dock p) i (length w.memory) x v
  unfolding piece_of is_out is_out_by
  piece_is i = simp (I.long, lt-ltb p 8 O.slot, O.pending, O.free, sound_held w.dock I.held p O.slot)

  -- a piece of the share
  pub scratch_piece : (ph : Phase) (a n : ℕ) → x.phase ≡ ph → ((i k : ℕ) → piece_by ph (share_at w.dock p) i k x v ≡ in_scratch i a n) → 0 < n
      → pieces_from w.dock p (length w.memory) (length w.scratch) 0 1 ≡ (Ok (InScratch (segment a n))) ∷ []
  unfolding pieces_from
  scratch_piece ph a n e f h = ap (λ (t : Result Piece Refusal). t ∷ []) (piece_is 0 ∙ ap (λ (k : Phase). piece_by k (share_at w.dock p) 0 (length w.memory) x v) e ∙ f 0 (length w.memory) ∙ Some)
    where
      Some : in_scratch 0 a n ≡ Ok (InScratch (segment a n))
      Some = simp (lt-ltb 0 n h)

  -- the segments of the vector
  module _ (ph : Phase) (e : x.phase ≡ ph) (f : (i k : ℕ) → piece_by ph (share_at w.dock p) i k x v ≡ in_data i k v) (g : is_valid (length w.memory) v ≡ true) where
    found : (i : ℕ) → i < v.count → in_data i (length w.memory) v ≡ Ok (InData (get_or v.segments i noSegment))
    found i h = simp (g, lt-ltb i v.count h)

    one : (i : ℕ) → i < v.count → piece_of w.dock p i (length w.memory) (length w.scratch) ≡ Ok (InData (get_or v.segments i noSegment))
    one i h = piece_is i ∙ ap (λ (k : Phase). piece_by k (share_at w.dock p) i (length w.memory) x v) e ∙ f i (length w.memory) ∙ found i h

    from : (k i : ℕ) → i + k ≤ v.count → pieces_from w.dock p (length w.memory) (length w.scratch) i k ≡ data_pieces (drop i v.segments) k
    unfolding pieces_from
    from zero i h = refl
    from (suc k) i h =
        let z : i + 0 ≡ i = omega arith in
        let y : i + 1 ≡ suc i = omega arith in
        let first : get_or v.segments i noSegment ≡ get_or (drop i v.segments) 0 noSegment = ap (λ (n : ℕ). get_or v.segments n noSegment) (sym z) ∙ sym (get_or-drop i v.segments 0 noSegment) in
        let rest : drop (suc i) v.segments ≡ drop 1 (drop i v.segments) = ap (λ (n : ℕ). drop n v.segments) (sym y) ∙ sym (drop-drop 1 i v.segments) in
        let a = one i (omega arith) ∙ ap (λ y. Ok (InData y)) first in
        let b = from k (suc i) (omega arith) ∙ ap (λ (l : List Segment). data_pieces l k) rest in
        λ t. a t ∷ b t

    pub data_pieces_lem : pieces_from w.dock p (length w.memory) (length w.scratch) 0 v.count ≡ data_pieces v.segments v.count
    data_pieces_lem = from v.count 0 (omega arith)

-- ---- the slot's new facts are all that is needed

before_grows : (c : Course) (a r m : Range) (ds es : List Did) → ((y : ℕ) → put_by ds y ≡ true → put_by es y ≡ true) → Before c a r m ds → Before c a r m es
before_grows Last a r m ds es f b = λ y h k. f y (b y h k)
before_grows Middle a r m ds es f b = tt
before_grows Head a r m ds es f b = λ y h k. f y (b y h k)
before_grows Chunks a r m ds es f b = λ y h k. f y (b y h k)

module _ (w : World) (m : Plain) (I : Inv w m) (p : ℕ) (h : p < 8) (pending : is_pending (state_at w.dock p).phase ≡ true) (free : waits_of p w.dock.blockers ≡ false) (T : Tracks w m p) (code : ℕ)
    (store' : Bytes) (memory' scratch' : List ℕ) (bytes' : Bytes) (steps' : List Did) where
  abbrev job' : Tracked
  job' = with_steps T.j steps'

  abbrev after : World
  after = acted w p code store' memory' scratch'

  abbrev stepped : Plain
  stepped = put_job (put_bytes m bytes') p (Some job')

  pub carry_inv : ((y : ℕ) → put_by T.j.steps y ≡ true → put_by steps' y ≡ true)
      → ((q : ℕ) → q < 8 → q ≢ p → Taken w.dock q → has_vector (state_at w.dock q).job ≡ true → bytes_of memory' (segments_of (vector_at w.dock q)) ≡ bytes_of w.memory (segments_of (vector_at w.dock q)))
      → ((q i : ℕ) → q ≢ p → i < w.dock.settings.bounce → share scratch' w.dock.settings.bounce q i ≡ share w.scratch w.dock.settings.bounce q i)
      → ((q : ℕ) → q < 8 → q ≢ p → waits_of q w.dock.blockers ≡ false → (state_at w.dock q).stage.strong ≡ true → is_blocking (state_at w.dock q).phase ≡ true → (i : ℕ) → i < size_of (state_at w.dock q).stage.request
      → store' ((state_at w.dock q).stage.request.start.0 + i) ≡ w.store ((state_at w.dock q).stage.request.start.0 + i))
      → lent_fits w.dock.buffers (length memory') (length scratch') ≡ true → ((y : ℕ) → store' y ≡ bytes' y)
      → (is_write_job (state_at w.dock p).job ≡ true → bytes_of memory' (segments_of (vector_at w.dock p)) ≡ T.j.bytes)
      → Fact (state_at w.dock p).phase store' memory' (share scratch' w.dock.settings.bounce p) (state_at w.dock p) (vector_at w.dock p) (Some code) job'
      → Inv after stepped
  carry_inv grows data-same share-same store_same long same source fact =
      renewed_inv w after m stepped I p h refl refl refl refl (λ q n. refl) (λ q n. refl) (λ q n. set_other w.carried p q (Some code) n) (λ q n. set_other m.jobs p q (Some job') n)
      data-same share-same store_same (λ q g n a. a) I.held long same
      (record {
        idle = λ e. never (sym e ∙ pending);
        tracks = λ f.
            record {
              j = job';
              is = set_same m.jobs p (Some job');
              flight =
                  rw (set_same w.carried p (Some code))
                  (record {
                    stands = T.flight.stands;
                    asked = T.flight.asked;
                    source = source;
                    geo = T.flight.geo;
                    zoned = T.flight.zoned;
                    as_asked = T.flight.as_asked;
                    before = λ e z. before_grows (state_at w.dock p).course _ _ _ T.j.steps steps' grows (T.flight.before e z);
                    fact = fact;
                    fresh = λ a. never (sym free ∙ a);
                  });
            };
      })
      (λ q g n f u r. either q g n f u r) (λ f r. I.alone p h f r)
    where
      either : (q : ℕ) → q < 8 → q ≢ p → Taken w.dock p → Taken w.dock q → (is_read_job (state_at w.dock p).job || is_read_job (state_at w.dock q).job) ≡ true
          → overlap_of (segments_of (vector_at w.dock p)) (segments_of (vector_at w.dock q)) ≡ false
      either q g n f u r =
          ⊎_elim (λ a. I.apart p q h g (λ e. n (sym e)) f u a)
          (λ a. overlap_sym (segments_of (vector_at w.dock p)) (segments_of (vector_at w.dock q)) ∙ I.apart q p g h n u f a)
          (or_cases (is_read_job (state_at w.dock p).job) (is_read_job (state_at w.dock q).job) r)
