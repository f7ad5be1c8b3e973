-- The whole program: from the bytes of an input to the bytes of its listing.
use Rattle.std.specs.Prelude.{◌≡◌, ℕ, ◌⊎◌, List, None}
use Rattle.replay.specs.declared.failure.Failure.{Failure}
use Rattle.replay.specs.Inputs.{Contents, Recorded}
use Rattle.replay.specs.Listing.{listing_of}
use Rattle.replay.specs.Refusals.{Unread}
use Rattle.replay.specs.Runs.{account_of, declined_at, Explains}

-- the input records settings, an order and samples, none of them is declined, and the output lists what the cell then tells
pub record Replayed (input output : List ℕ) : Type 0 where
  pub contents : Contents
  pub recorded : Recorded input contents
  pub accepted : declined_at contents ≡ None
  pub listed : output ≡ listing_of (account_of contents)

-- the input records settings, an order and samples, and the failure is that one of them is declined, or that there was no memory
pub record Unplayed (input : List ℕ) (failure : Failure) : Type 0 where
  pub contents : Contents
  pub recorded : Recorded input contents
  pub declined : Explains (declined_at contents) failure

-- why an input has no listing: it cannot be read, or else what it records cannot be played
abbrev pub Unlisted : List ℕ → Failure → Type 0
Unlisted input failure = Unread input failure ⊎ Unplayed input failure

-- the input records settings, an order and samples, and none of them is declined
abbrev pub Listable : List ℕ → Type 0
Listable input = (contents : Contents) × Recorded input contents × (declined_at contents ≡ None)
