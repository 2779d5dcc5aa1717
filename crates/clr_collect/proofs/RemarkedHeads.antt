-- The heads of free items stay where marks of objects change.
pub use Rattle.clr_survivors.proofs.RemarkedHeads.{heads_remarked}
