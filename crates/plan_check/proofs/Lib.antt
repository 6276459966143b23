mod Places
mod Small
mod Nodes
mod Judgements
mod Members
mod Cases
