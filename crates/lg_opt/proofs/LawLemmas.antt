-- The laws from the lemmas.
use Rattle.std.proofs.Common.{ℕ, Bool}
use Rattle.lg_base.specs.Runs.{Machine, IsMachine, EndsSilently}
use Rattle.lg_opt.specs.Laws.{DropsJoin, DropsAndThreadsAreFollowed, ThreadingTurns, FollowedRunsAgree}
use Rattle.lg_opt.proofs.FollowDropLemmas.{joined, follows-joined, looks-joined, turns-joined}
use Rattle.lg_opt.proofs.FollowLemmas.{followed-agree}
use Rattle.lg_opt.proofs.ThreadLemmas.{threading-turns}
use Rattle.lg_opt.proofs.FollowTwiceLemmas.{drops-twice}

module _ {P M N : Type 0} (old : Machine P) (middle : Machine M) (new : Machine N) (at : P → ℕ) (place : M → ℕ) (is : IsMachine old) where
  pub drops-joined : (last : N → ℕ) → DropsJoin old middle new at place last
  drops-joined last p m n j1 j2 stays1 stays2 to1 to2 one two f =
      drops-twice old middle new p m n at place last stays1 stays2 to1 to2 j1 j2 is one two f.leaps f.falls f.dropped

  pub followed : {A : Type 0} (loud : N → Bool) (look : P → A) (view : M → A) (see : N → A) → DropsAndThreadsAreFollowed old middle new at place loud look view see
  followed loud look view see p m n j1 j2 stays jump leap to drops threads quiet calm one two = (
    record {
      j = joined old middle new p m n at place stays to j1 j2 is drops jump leap loud threads quiet;
      follows = follows-joined old middle new p m n at place stays to j1 j2 is drops jump leap loud threads quiet;
      turns = turns-joined old middle new p m n at place stays to j1 j2 is drops jump leap loud threads quiet;
    },
    looks-joined old middle new p m n at place stays to j1 j2 is drops jump leap loud threads quiet look view see calm one two,
  )

module _ {P N : Type 0} (old : Machine P) (new : Machine N) (at : P → ℕ) (loud : N → Bool) (is : IsMachine old) where
  pub turned : (place : N → ℕ) → ThreadingTurns old new at place loud
  turned place p n j jump leap turning stays to goal depth t = threading-turns old new p n j at place jump leap turning stays to goal depth loud is t

  pub runs-agree : {Q : Type 0} (processor : Machine Q) (stands : N → Q → Type 0) → EndsSilently old → IsMachine processor → FollowedRunsAgree old new processor at loud stands
  runs-agree processor stands silent is-q p n q nodes steps f inside alike carry run st =
      followed-agree old new processor stands loud at p n f.j nodes f.follows f.turns is inside silent is-q alike carry run q st steps
