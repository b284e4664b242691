pub mod Trees
pub mod Nodes
pub mod Verdicts
pub mod ExprTrees
